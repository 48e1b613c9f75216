pub mod Computed
pub mod Table
pub mod Files
pub mod Litmus
