mod CarriedValues
pub mod Crossings
mod Descents
mod Exactness
mod Example
pub mod Fitness
mod ValueMarks
pub mod ValueLists
mod AnyBelow
mod PostAlike
mod Rules
mod Served
mod ServerAlike
mod PreAlike
pub mod Sights
mod Stages
pub mod Steps
pub mod Sums
mod Tabled
mod Wholes
mod Wide
pub mod Laws
