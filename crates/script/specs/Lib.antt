pub mod Arguments
pub mod Reads
pub mod Requests
pub mod Words
