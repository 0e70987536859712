pub mod Lent
pub mod Found
pub mod ReadBack
pub mod Result
