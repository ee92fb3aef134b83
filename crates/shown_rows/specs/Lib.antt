pub mod Values
pub mod Comparisons
pub mod Conditions
pub mod Rows
pub mod Worked
