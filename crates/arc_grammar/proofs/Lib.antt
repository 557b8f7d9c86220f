pub mod Fits
pub mod Loops
pub mod Lists
