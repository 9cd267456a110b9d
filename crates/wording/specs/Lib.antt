pub mod Apart
pub mod Wording
