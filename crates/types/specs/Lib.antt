pub mod State
pub mod Collapse
