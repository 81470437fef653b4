pub mod Laws
mod FoundTokens
