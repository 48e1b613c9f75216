pub mod Numbers
pub mod Aim
pub mod Asks
