pub mod Distinct
pub mod Found
pub mod HostServices
pub mod MemberLemmas
pub mod Scopes
pub mod Sought
pub mod Worst
