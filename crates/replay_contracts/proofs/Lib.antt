pub mod CallsOfEvent
mod DrainPicks
mod SeenStore
mod Determined
mod Formed
pub mod Calls
pub mod Asked
mod OnSwitch
mod PassesOfCall
mod PassingOn
mod PassMoves
pub mod KnowingOn
pub mod Laws
