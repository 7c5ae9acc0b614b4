pub mod Scattered
