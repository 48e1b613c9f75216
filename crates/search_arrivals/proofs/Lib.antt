pub mod Ranges
pub mod Parts
pub mod Acting
pub mod Telling
pub mod Skipped
pub mod Turns
pub mod Known
