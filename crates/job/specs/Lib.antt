pub mod Header
pub mod Areas
pub mod Stages
