pub mod Pigeons
pub mod Breaks
pub mod Walks
