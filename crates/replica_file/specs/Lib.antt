pub mod Durable
pub mod Grammar
pub mod Folded
pub mod File
pub mod OnDisk
pub mod Refused
pub mod Seen
pub mod Laws
