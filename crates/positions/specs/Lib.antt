pub mod Beginnings
pub mod Looking
pub mod Pairs
pub mod Searches
