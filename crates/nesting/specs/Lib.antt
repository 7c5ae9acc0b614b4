pub mod Brackets
pub mod Faults
pub mod Texts
