pub mod Draws
pub mod Texts
pub mod Objects
pub mod Checks
pub mod Queries
pub mod Workload
pub mod Accepted
