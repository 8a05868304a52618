pub mod Facts
pub mod Rows
pub mod Notes
pub mod Goals
