pub mod PlaceLaws
pub mod RunLaws
