pub mod Print
pub mod Refusals
pub mod Worked
