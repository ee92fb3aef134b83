pub mod Seats
pub mod Shows
pub mod Steps
pub mod Causes
