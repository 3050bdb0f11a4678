pub mod Said
pub mod Reported
