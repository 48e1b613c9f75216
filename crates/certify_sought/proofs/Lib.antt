pub mod Numbers
pub mod Asking
pub mod Placing
