pub mod Tree
pub mod Types
pub mod Operators
