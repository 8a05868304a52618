pub mod Words
pub mod Rules
pub mod Derivations
pub mod Tables
pub mod Limits
