pub mod Beginning
pub mod Once
