-- The vocabulary of private functions: no contract of a public call speaks of it.
pub mod Declaring
pub mod Signatures
pub mod Fields
pub mod Given
pub mod Globals
pub mod Tops
