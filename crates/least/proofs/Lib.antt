pub mod Walking
pub mod Least
pub mod Runs
pub mod Turns
