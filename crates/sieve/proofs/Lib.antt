mod BitsLaws
mod Divisors
mod RequestLaws
mod TextLaws
