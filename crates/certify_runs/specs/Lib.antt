pub mod Below
pub mod Certify
pub mod Runs
pub mod First
pub mod Values
pub mod Inner
