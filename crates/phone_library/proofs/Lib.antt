pub mod CodeTerritories
pub mod NationalNumbers
pub mod TerritoryCodes
pub mod TriedKinds
