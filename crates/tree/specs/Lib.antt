pub mod Counts
pub mod Laws
pub mod Means
pub mod Nodes
