pub mod Violations
pub mod Sites
pub mod Messages
pub mod FoundViolations
