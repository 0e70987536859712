pub mod Grown
pub mod Rounded
pub mod Sorted
pub mod Fresh
