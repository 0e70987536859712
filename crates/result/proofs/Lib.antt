pub mod Once
pub mod Parts
