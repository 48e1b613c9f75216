pub mod Value
pub mod Sized
