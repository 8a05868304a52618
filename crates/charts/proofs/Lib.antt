pub mod Drawings
pub mod Sure
