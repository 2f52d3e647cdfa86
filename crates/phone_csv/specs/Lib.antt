pub mod Faults
pub mod Feeds
pub mod Firsts
pub mod Formats
pub mod Quotes
pub mod Records
pub mod RecordReports
pub mod Runs
