pub mod Putting
pub mod Filling
pub mod Entries
pub mod Words
