pub mod Arrivals
pub mod Fields
pub mod Runs
pub mod Flows
pub mod Runnable
