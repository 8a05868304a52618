pub mod Walks
pub mod Entries
pub mod Lowering
pub mod Bands
