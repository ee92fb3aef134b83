pub mod Bytes
pub mod Memory
pub mod Plan
pub mod Stop
