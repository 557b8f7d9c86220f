pub mod Commands
pub mod Asks
