mod Alike
pub mod Soundness
mod Passes
mod Rests
pub mod Givens
pub mod PostStart
pub mod ComputedPasses
pub mod Places
mod Marks
mod Codes
mod NotedSteps
mod Tested
pub mod Spanned
pub mod ApartValues
pub mod PassesByStages
pub mod Declared
pub mod InStages
pub mod ZeroValues
mod NeededValues
pub mod PlannedPasses
mod PassSteps
pub mod Journals
pub mod Laws
