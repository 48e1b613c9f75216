pub mod Window
pub mod Idling
