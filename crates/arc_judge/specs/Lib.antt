pub mod Fault
pub mod Rules
pub mod private
