pub mod Places
pub mod Match
