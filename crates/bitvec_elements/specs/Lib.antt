pub mod BitsFrom
pub mod Converting
pub mod Difference
pub mod OrderLaws
