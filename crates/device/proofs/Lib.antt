pub mod FilterLaws
pub mod WorkLaws
