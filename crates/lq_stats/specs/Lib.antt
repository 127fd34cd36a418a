pub mod Groups
pub mod Keys
pub mod Totals
pub mod Grouped
pub mod Columns
