pub mod Charts
pub mod Causes
