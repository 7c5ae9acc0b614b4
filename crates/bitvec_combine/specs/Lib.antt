pub mod ActLaws
pub mod Acts
pub mod CombineLaws
pub mod DifferLaws
pub mod PutLaws
pub mod Sides
