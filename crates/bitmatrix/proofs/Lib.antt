pub mod ChainLaws
pub mod PairLaws
pub mod PathLaws
pub mod RowLaws
pub mod TextLaws
