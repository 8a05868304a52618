pub mod TripleRooms
pub mod TripleRows
pub mod TripleSizes
mod Counts
