pub mod Unfolding
pub mod Reaching
pub mod Witnesses
