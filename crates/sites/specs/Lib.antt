pub mod Together
pub mod Site
pub mod Ladder
pub mod Taking
pub mod Network
pub mod Asking
