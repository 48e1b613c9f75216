pub mod Entries
pub mod Merging
