mod AlikeMeanings
pub mod SerialOrder
pub mod Members
pub mod RisingEntries
pub mod SerialSort
mod PartLaws
pub mod Laws
