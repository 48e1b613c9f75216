pub mod Law
pub mod Kept
