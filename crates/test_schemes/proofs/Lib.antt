pub mod Equal
pub mod SameRows
