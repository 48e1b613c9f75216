pub mod Lists
pub mod Numbers
pub mod Places
pub mod Inner
