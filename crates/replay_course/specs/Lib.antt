pub mod Fates
pub mod Going
pub mod Idle
pub mod Shown
pub mod Telling
pub mod UnderWay
