pub mod Laws
pub mod Means
pub mod Queues
pub mod Orders
