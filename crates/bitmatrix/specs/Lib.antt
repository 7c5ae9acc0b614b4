pub mod Arguments
pub mod Faults
pub mod Matrix
pub mod Program
pub mod Texts
