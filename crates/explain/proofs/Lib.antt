pub mod Subsets
pub mod Fits
pub mod Uniqueness
pub mod Reading
pub mod Counting
pub mod Sharp
