mod Ahead
mod Along
mod Empty
mod Entered
mod Follows
mod Oks
mod Owned
mod Planned
mod Posting
mod Reserved
mod Resumed
mod Spent
mod Stepping
mod Taken
pub mod EntriesAt
pub mod Working
mod Staged
mod Standing
mod Written
