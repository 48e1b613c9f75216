pub mod Tries
pub mod Passing
