pub mod Allowed
mod Entries
mod Names
mod Numbers
