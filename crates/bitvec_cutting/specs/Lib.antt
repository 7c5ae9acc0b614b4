pub mod ChunkLaws
pub mod Cutting
pub mod CuttingLaws
pub mod RangeLaws
pub mod WalkLaws
pub mod Walks
