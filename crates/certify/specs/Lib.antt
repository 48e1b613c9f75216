pub mod Answers
pub mod Search
pub mod Shows
