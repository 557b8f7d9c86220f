pub mod Bytes
pub mod Faults
pub mod Source
pub mod Spellings
pub mod Texts
pub mod Tokens
pub mod private
