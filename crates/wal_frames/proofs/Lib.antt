mod OtherKinds
pub mod Peers
pub mod Within
pub mod Laws
pub mod Decoding
