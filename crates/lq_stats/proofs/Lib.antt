pub mod KeyLemmas
pub mod ValueLemmas
pub mod GroupLemmas
pub mod RowLemmas
pub mod StatsLemmas
pub mod BoundLemmas
pub mod ColumnLemmas
pub mod MarkLemmas
