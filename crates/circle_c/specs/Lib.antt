pub mod Challenger
pub mod Line
pub mod Params
pub mod Statement
pub mod With
