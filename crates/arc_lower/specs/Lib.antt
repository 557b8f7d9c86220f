pub mod PlainActions
pub mod KnownKinds
pub mod Size
pub mod Lowered
pub mod Heights
pub mod LoweringContract
pub mod private
