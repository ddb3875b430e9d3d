pub mod Answers
pub mod Calls
pub mod Deeds
pub mod Steps
