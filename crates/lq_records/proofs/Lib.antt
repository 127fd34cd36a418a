pub mod CleanLemmas
pub mod Contacts
pub mod NameLemmas
pub mod OwnedLemmas
