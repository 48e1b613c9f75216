pub mod Unread
pub mod Noting
