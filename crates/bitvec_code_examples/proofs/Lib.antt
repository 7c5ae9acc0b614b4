pub mod PrefixTables
pub mod PrefixTexts
