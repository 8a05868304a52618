pub mod Questions
pub mod Orders
pub mod Books
pub mod Causes
pub mod Asking
pub mod Witnesses
