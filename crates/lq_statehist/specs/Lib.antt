pub mod Notes
pub mod Facts
pub mod Tiling
pub mod History
pub mod Slices
pub mod Laws
pub mod Pass
pub mod Sorted
