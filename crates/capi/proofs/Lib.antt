pub mod Codes
pub mod Telling
pub mod Before
pub mod After
