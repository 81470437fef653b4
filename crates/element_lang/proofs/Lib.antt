pub mod Longest
pub mod FirstByte
pub mod Shorter
pub mod FirstBroken
pub mod Laws
