pub mod Cells
pub mod Counts
pub mod Severity
pub mod Hosts
pub mod Distinct
pub mod Names
pub mod Plain
