pub mod Rules
pub mod Numbers
pub mod Contents
pub mod Storing
pub mod Words
