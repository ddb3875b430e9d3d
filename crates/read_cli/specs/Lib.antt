pub mod Cards
pub mod Told
