pub mod CommandLine
pub mod Faults
pub mod Run
pub mod Words
pub mod Load
