pub mod Steps
pub mod Chosen
pub mod Taken
pub mod Plain
pub mod Below
pub mod Forms
pub mod Refusals
pub mod Answered
