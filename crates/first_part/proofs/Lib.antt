pub mod Undo
pub mod Unwanted
