pub mod Kept
pub mod Moved
pub mod Parted
pub mod Laid
pub mod Squeezed
pub mod Staying
