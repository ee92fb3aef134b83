pub mod Lines
pub mod Statements
pub mod Works
pub mod Answers
pub mod Print
