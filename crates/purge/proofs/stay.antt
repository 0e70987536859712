pub mod Places
pub mod Staying
