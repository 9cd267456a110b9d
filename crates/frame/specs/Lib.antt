pub mod Messages
pub mod Carried
pub mod Rows
