pub mod First
pub mod Machines
pub mod Outlines
pub mod Refusals
pub mod Rules
