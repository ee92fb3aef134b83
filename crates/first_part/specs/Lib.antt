pub mod Routing
pub mod Kept
pub mod InHalf
pub mod Part
pub mod PartCode
