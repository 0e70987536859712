pub mod Served
pub mod Printed
