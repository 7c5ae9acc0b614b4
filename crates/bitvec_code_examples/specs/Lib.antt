pub mod Headers
pub mod PrefixCodes
pub mod Segments
