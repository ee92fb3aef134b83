pub mod Orders
pub mod PlaceLemmas
pub mod Scan
pub mod Writes
