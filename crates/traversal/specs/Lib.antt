pub mod Sets
pub mod Trail
pub mod OverSets
