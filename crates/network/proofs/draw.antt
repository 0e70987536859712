pub mod Verdicts
pub mod Writable
pub mod Steps
