pub mod Chunks
pub mod Filter
pub mod Numbers
pub mod Parts
pub mod Pattern
pub mod Program
pub mod Registers
