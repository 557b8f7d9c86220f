pub mod BlockUpdate
pub mod WordSegments
pub mod BlockRowUpdate
