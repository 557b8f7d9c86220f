pub mod Rules
pub mod Fault
pub mod KnownFamilies
pub mod private
