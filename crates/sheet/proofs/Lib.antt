pub mod Chains
pub mod Standing
pub mod Marking
pub mod Witnessing
