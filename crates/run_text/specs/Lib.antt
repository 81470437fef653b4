pub mod Body
pub mod Trace
pub mod Report
pub mod Answer
pub mod Printed
pub mod LinkSchedule
pub mod Said
