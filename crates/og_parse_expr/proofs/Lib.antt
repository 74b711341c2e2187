pub mod Rules
pub mod ReadExpressions
pub mod WrittenExpressions
pub mod Whole
