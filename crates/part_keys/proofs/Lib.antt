pub mod EntryFormats
pub mod Fillings
pub mod FlippedOrders
pub mod KeyFormats
pub mod KeyOrders
pub mod Deciding
