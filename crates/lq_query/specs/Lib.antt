pub mod Rows
pub mod Groups
pub mod Answer
pub mod Lines
pub mod Counting
pub mod Isolation
