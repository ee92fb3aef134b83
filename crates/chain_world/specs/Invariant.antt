-- What only the proof sees: the discipline that each decision meets, and what holds of the ledger, and between leaders,
-- packets and lists, in every state.
pub mod ChainFacts
pub mod Discipline
pub mod Sound
pub mod Moves
pub mod Protocol
pub mod Safe
pub mod Going
pub mod Cancelling
pub mod Doubling
pub mod Causing
pub mod Meeting
