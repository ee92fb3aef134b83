pub mod Own
pub mod Kept
pub mod OnDisk
pub mod Steps
pub mod Changed
