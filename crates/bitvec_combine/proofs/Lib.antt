pub mod MetActs
pub mod RoomLemmas
pub mod StretchActs
