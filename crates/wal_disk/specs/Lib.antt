pub mod Cause
pub mod File
pub mod Reading
pub mod Sound
pub mod Torn
