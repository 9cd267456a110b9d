pub mod Length
pub mod Rows
pub mod Tables
pub mod Whole
pub mod Back
pub mod Sound
