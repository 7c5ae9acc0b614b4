pub mod ApartLaws
pub mod BitPartsLaws
pub mod DomainBits
pub mod Rests
