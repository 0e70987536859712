pub mod Network
pub mod Room
pub mod Left
pub mod Once
pub mod Lines
