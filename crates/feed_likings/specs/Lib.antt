pub mod Units
pub mod Alike
pub mod Numbered
pub mod Likings
pub mod Laws
