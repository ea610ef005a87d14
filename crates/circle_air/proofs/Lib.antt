pub mod Nodes
pub mod Texts
pub mod Cycles
pub mod Found
pub mod Lanes
pub mod Embedding
pub mod Built
pub mod Readings
