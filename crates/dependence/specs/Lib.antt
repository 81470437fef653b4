pub mod Placed
pub mod Marked
pub mod Guards
pub mod Uses
pub mod Noted
pub mod Posted
