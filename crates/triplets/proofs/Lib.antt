pub mod Filling
pub mod Order
