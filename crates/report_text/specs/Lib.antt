pub mod Form
pub mod Lines
pub mod Parse
pub mod Machine
