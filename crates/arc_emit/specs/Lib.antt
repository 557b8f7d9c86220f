pub mod EmittedCode
pub mod Faults
