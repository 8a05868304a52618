mod Levels
mod Splitting
mod Doing
mod Sizes
mod Piles
mod Nearest
pub mod Choosing
