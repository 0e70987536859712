pub mod Block
pub mod Converted
pub mod Lines
pub mod Answers
pub mod Sequences
pub mod Refusals
pub mod Read
