pub mod Sizes
pub mod Division
pub mod Equations
pub mod Products
pub mod Complete
pub mod Parts
pub mod Trial
pub mod Reading
pub mod Decide
pub mod Start
pub mod PowerSteps
pub mod EquationSteps
pub mod Evaluation
pub mod Candidate
pub mod Horner
pub mod Listing
pub mod Whole
pub mod Steps
pub mod Rows
pub mod Answer
pub mod Alone
pub mod Worked
mod Differences
mod TableRows
mod Tables
mod Sieve
mod Lazy
