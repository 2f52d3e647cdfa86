pub mod Forms
pub mod Records
pub mod RecordsUnique
pub mod Refusals
pub mod Unique
