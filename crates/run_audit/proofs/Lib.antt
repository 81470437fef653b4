mod Lists
mod Walks
mod Serial
mod Places
mod OneOrder
mod True
mod Refusals
mod Answers
mod Within
pub mod Laws
