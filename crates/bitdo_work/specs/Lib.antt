pub mod Arguments
pub mod Elements
pub mod Faults
pub mod Ops
pub mod Program
pub mod Steps
pub mod Texts
pub mod Words
