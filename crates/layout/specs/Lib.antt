pub mod Values
pub mod Numbers
pub mod Format
pub mod Frames
pub mod Puts
pub mod Laws
