pub mod SidesLaws
