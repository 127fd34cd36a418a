pub mod MarkLemmas
pub mod ServiceLemmas
