pub mod ElementsLaws
