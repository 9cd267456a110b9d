pub mod IsLink
pub mod Laws
pub mod Means
pub mod Repeats
