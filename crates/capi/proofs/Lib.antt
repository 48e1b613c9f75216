pub mod Called
pub mod Coincide
