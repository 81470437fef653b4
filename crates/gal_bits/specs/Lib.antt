pub mod Checksum
pub mod Operators
pub mod Padded
pub mod Fitting
pub mod Fits
