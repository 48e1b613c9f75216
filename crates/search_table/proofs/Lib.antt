pub mod Laws
pub mod Seeking
