pub mod CuttingExamples
pub mod ListsExamples
pub mod MemoryExamples
pub mod OperatorsExamples
pub mod PlacesExamples
pub mod RangesExamples
pub mod RunsExamples
pub mod SegmentsExamples
