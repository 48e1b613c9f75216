pub mod Bytes
pub mod Written
pub mod Read
