pub mod Below
pub mod Walk
pub mod Feasible
pub mod Tree
pub mod Spans
