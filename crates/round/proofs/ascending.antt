pub mod Sorted
pub mod Compared
pub mod Inserted
