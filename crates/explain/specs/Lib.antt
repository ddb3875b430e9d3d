pub mod Explanation
pub mod AnyPoints
pub mod Promise
pub mod Sharp
