pub mod Whole
pub mod Through
pub mod Over
pub mod UnderWay
