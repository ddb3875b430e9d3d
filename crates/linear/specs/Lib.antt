pub mod System
pub mod Cells
pub mod Elimination
pub mod Rows
pub mod Systems
