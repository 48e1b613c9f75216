pub mod Refused
pub mod Worth
pub mod Beaten
pub mod Open
