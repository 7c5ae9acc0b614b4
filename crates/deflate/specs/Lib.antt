pub mod Deflate
pub mod Faults
pub mod Literals
pub mod Program
pub mod Reading
