pub mod Chosen
pub mod Likings
pub mod Listing
