pub mod DomainParts
pub mod DomainPartsLaws
pub mod Fields
pub mod IntegersLaws
pub mod Radix
