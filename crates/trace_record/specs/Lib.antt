pub mod Trace
pub mod Inner
