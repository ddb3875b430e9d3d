pub mod Bringing
pub mod Climbing
pub mod Listing
pub mod Deeds
pub mod Taking
pub mod Answering
