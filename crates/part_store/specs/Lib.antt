pub mod Settings
pub mod Values
pub mod Facts
pub mod Keeps
pub mod Reads
pub mod Writes
pub mod Laws
