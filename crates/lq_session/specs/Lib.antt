pub mod Replies
pub mod Reading
pub mod Session
