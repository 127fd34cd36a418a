pub mod AppendLemmas
pub mod MarkLemmas
pub mod PatternLemmas
pub mod PrefixLemmas
pub mod StepLemmas
pub mod TreeLemmas
