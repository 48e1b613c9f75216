pub mod Replay
pub mod Answers
pub mod InTurn
