pub mod Written
pub mod Cases
pub mod Files
pub mod Litmus
