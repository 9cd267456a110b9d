pub mod Counting
pub mod Saying
pub mod Spelling
