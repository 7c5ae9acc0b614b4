pub mod LeftLaws
pub mod LentPiecesLaws
pub mod PartLaws
pub mod PassedLaws
pub mod Writing
