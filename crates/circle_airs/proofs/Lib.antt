mod Sequence
pub mod Shapes
