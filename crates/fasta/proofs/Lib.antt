pub mod JobOf
pub mod Written
pub mod Left
pub mod Ready
