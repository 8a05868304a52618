pub mod Paths
pub mod Maximal
pub mod Formulas
pub mod Facts
pub mod Layouts
