pub mod Written
pub mod ColumnSums
pub mod Powers
pub mod Lists
