pub mod Own
pub mod Durable
pub mod Framed
