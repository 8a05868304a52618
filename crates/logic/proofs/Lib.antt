pub mod Inside
pub mod Mapping
pub mod GuardedPaths
pub mod Layouts
