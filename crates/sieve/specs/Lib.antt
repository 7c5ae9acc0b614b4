pub mod Primes
pub mod Program
pub mod Requests
pub mod Sieving
pub mod Texts
