pub mod Front
pub mod FrontWritten
pub mod Records
pub mod Lines
pub mod Order
pub mod Table
