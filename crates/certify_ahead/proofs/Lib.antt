pub mod Stores
pub mod Loads
