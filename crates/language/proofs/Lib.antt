pub mod Coming
pub mod Heights
pub mod Members
pub mod Naming
