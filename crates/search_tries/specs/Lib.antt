pub mod Steps
pub mod Worthwhile
