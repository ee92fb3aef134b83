pub mod Who
pub mod Durable
pub mod Replica
pub mod Spelled
