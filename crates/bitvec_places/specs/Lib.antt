pub mod Kept
pub mod Loads
pub mod Places
pub mod Turns
pub mod WordOnes
