pub mod Firsts
pub mod Placing
pub mod Probing
pub mod Storing
