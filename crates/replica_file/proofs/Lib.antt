pub mod Records
pub mod Folds
pub mod Gates
pub mod Files
pub mod Own
pub mod AsRead
pub mod OnDisk
