pub mod Filled
pub mod Room
