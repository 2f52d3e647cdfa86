pub mod DecodedLemmas
pub mod LeftOvers
pub mod RoomLemmas
pub mod UnitLemmas
