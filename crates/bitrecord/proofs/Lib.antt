mod Digits
mod Exponents
mod Numbers
mod Puts
mod RunLaws
