pub mod Fibonacci
pub mod Handles
pub mod Shape
