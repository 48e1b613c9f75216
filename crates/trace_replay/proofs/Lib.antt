pub mod Records
pub mod Files
pub mod Good
pub mod Parts
pub mod Bytes
pub mod Never
