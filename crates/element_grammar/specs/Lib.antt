pub mod Surface
pub mod Machine
pub mod Refused
