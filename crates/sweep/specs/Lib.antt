pub mod Candidate
pub mod Floors
