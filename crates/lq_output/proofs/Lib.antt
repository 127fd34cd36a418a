pub mod EscapeLemmas
pub mod HeaderLemmas
pub mod LineLemmas
pub mod WritingLemmas
