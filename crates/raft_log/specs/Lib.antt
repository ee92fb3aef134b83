pub mod Peers
pub mod Config
pub mod Log
pub mod Places
pub mod Rising
pub mod Majority
pub mod Decided
