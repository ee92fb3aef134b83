pub mod Places
pub mod Asked
pub mod State
pub mod Leaving
pub mod Written
