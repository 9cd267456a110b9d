pub mod Apart
pub mod Whole
pub mod Restoring
