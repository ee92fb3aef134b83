pub mod Along
pub mod Ended
pub mod Next
pub mod Peer
pub mod Placed
pub mod Room
pub mod Stages
pub mod Worked
