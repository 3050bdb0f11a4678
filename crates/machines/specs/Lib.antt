pub mod Bytes
pub mod Rows
pub mod Held
pub mod TableLaws
