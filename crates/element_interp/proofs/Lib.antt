pub mod Assigned
pub mod NoBits
pub mod GoodRuns
pub mod KeptObjects
pub mod KeptRuns
pub mod Bindings
pub mod Turns
pub mod Laws
