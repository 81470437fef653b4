pub mod AtWork
pub mod Constants
pub mod Entries
mod EvenLaws
pub mod FittedLaws
mod Halves
mod KeptLaws
pub mod LawLemmas
mod NumberLaws
mod PackLaws
mod PackSteps
mod PlacedLaws
mod PourLaws
mod RowLaws
mod ShapeLaws
mod SlotRows
mod SortLaws
pub mod Laws
