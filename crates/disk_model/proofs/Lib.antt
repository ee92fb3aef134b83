mod Histories
pub mod Moments
mod Names
mod TornPicks
