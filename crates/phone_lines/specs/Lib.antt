pub mod Ends
pub mod Faults
pub mod Lines
pub mod LineReports
pub mod Runs
pub mod Taken
pub mod TakenEnds
