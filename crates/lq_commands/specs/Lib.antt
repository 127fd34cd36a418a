pub mod Fields
pub mod Forms
pub mod Commands
pub mod Orders
pub mod Reading
