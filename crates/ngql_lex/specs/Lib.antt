pub mod Bytes
pub mod Keywords
pub mod Texts
pub mod Front
pub mod Lines
