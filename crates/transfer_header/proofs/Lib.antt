pub mod BitLists
pub mod SweptBlocks
pub mod ByPlace
mod Examples
pub mod Elements
pub mod LayoutInRegisters
pub mod LayoutValues
pub mod Members
pub mod Numbers
pub mod Parts
pub mod PassInRegisters
pub mod PlacedNumbers
pub mod WholeFrames
pub mod Writes
pub mod Laws
