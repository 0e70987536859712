pub mod Phases
pub mod Ran
pub mod Begun
