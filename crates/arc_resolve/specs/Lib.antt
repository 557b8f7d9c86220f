pub mod SourceResolution
pub mod private
