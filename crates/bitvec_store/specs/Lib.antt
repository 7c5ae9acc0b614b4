pub mod DigitLaws
pub mod Width
pub mod WidthLaws
