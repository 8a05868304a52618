pub mod Consequences
pub mod Notes
