pub mod Blocks
pub mod Sizes
pub mod Stock
pub mod BlockLayout
