pub mod Backwards
pub mod Bound
pub mod Room
pub mod OwnPromise
pub mod Kept
pub mod Stepping
pub mod Answered
pub mod InTime
