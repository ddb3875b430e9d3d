pub mod Prime
pub mod Polynomial
pub mod Cost
pub mod Residues
pub mod Theorems
pub mod Plain
