pub mod Faults
pub mod Loading
pub mod Forms
pub mod Sinks
pub mod Adapters
