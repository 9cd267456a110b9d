pub mod Numbers
pub mod Proposals
pub mod Times
pub mod Words
