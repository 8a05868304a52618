pub mod Refusals
pub mod Sizes
pub mod Relations
pub mod Sets
pub mod Edges
pub mod Models
pub mod Drafts
pub mod RecordSets
