mod Empty
mod Posted
mod Rows
mod Sourced
mod Wiped
