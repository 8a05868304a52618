pub mod Sizes
pub mod Marks
pub mod Findings
pub mod Lookings
pub mod Leadings
pub mod Turns
pub mod Beginnings
