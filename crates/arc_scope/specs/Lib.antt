pub mod Kinds
pub mod Formats
pub mod Scopes
pub mod KnownNames
pub mod ParameterKinds
pub mod Views
