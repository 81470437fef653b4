mod Follows
mod Turns
mod Runs
mod Few
pub mod Wholes
mod Commanded
mod Seen
mod Passed
pub mod Tells
mod KnownByPass
pub mod Laws
