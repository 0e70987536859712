pub mod Legible
