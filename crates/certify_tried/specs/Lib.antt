pub mod Tried
pub mod Blind
