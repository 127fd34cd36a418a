pub mod Entries
pub mod Numbered
pub mod OwnLemmas
pub mod HistoryLemmas
