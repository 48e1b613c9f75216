pub mod Window
pub mod Idle
