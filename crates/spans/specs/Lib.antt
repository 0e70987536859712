pub mod Tree
pub mod Growth
