pub mod Printed
pub mod Spaced
pub mod ReadsBack
pub mod Lengths
pub mod Depths
