pub mod Sent
pub mod Blocks
