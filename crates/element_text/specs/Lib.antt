pub mod Resolve
pub mod Names
pub mod Scopes
pub mod Typed
pub mod Statements
pub mod Errors
pub mod Refused
pub mod Reads
