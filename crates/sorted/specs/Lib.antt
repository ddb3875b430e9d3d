-- The definitions that contracts cite.
pub mod Lists
pub mod Faults
pub mod Edits
pub mod Merged
pub mod Sorted
pub mod Theorems
