pub mod Checksums
pub mod Faults
pub mod Frames
pub mod Program
