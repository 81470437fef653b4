pub mod Versions
pub mod Small
pub mod Verdicts
pub mod Orders
pub mod Rows
pub mod Parts
pub mod Formed
pub mod Laws
