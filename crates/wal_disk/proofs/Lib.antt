mod Append
mod Crash
mod Fronts
pub mod Readings
mod Tears
