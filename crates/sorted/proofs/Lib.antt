-- The lemmas, by topic.
pub mod Members
pub mod Insertion
pub mod Difference
pub mod Union
pub mod Distance
pub mod Faults
pub mod Places
pub mod Shifts
pub mod MergeSteps
pub mod Splits
pub mod Turns
pub mod Statements
