pub mod FirstViolation
pub mod FoundIsFirst
