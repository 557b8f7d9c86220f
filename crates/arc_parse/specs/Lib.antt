pub mod Refusal
pub mod private
