pub mod FirstViolation
pub mod SuperclassesAgree
