pub mod DigitLemmas
pub mod ReportLemmas
pub mod LoadLemmas
pub mod OpenLemmas
pub mod WorkloadLemmas
pub mod NumberLemmas
