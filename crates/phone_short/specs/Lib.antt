pub mod Costs
pub mod Emergencies
pub mod Kinds
pub mod Numbers
pub mod Regions
pub mod Texts
