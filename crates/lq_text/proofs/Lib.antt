pub mod IntegerLemmas
pub mod LineLemmas
pub mod NumberLemmas
