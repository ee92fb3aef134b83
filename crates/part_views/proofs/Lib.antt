mod InOrder
mod KeyRead
mod Facts
mod Prefix
mod Seen
