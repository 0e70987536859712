pub mod Origins
pub mod Lying
pub mod Behind
pub mod Grown
pub mod Faithful
pub mod Offers
pub mod Added
pub mod Turned
