pub mod Bodies
pub mod LineSteps
pub mod AllValues
pub mod Arrivals
pub mod PrintedLines
pub mod PrintedBack
pub mod LinkSchedules
pub mod AtOnce
