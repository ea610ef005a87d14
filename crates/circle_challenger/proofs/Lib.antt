pub mod Draws
pub mod Readings
pub mod Witnesses
