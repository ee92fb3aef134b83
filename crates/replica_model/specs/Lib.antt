pub mod Spelling
pub mod Bytes
pub mod Replica
pub mod Asks
pub mod Letters
pub mod Stepped
pub mod Laws
pub mod Worked
