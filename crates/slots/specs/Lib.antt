pub mod Arguments
pub mod Changes
pub mod Faults
pub mod Places
pub mod Runs
pub mod Work
