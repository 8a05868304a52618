pub mod Bits
pub mod Joins
pub mod Tables
pub mod RecordSets
pub mod Passing
