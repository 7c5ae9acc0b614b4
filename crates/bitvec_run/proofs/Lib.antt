pub mod FieldRowsLaws
