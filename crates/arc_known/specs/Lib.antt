pub mod Known
pub mod Programs
pub mod RefusedSources
