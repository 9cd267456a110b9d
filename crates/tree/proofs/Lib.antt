pub mod Descents
pub mod Growing
pub mod Ordering
