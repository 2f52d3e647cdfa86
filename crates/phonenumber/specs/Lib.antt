pub mod RoundTrips
pub mod Bounds
pub mod Plain
pub mod Printed
pub mod Printers
pub mod Queries
pub mod Sinks
pub mod Thin
