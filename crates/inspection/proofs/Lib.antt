mod Bytes
mod Once
mod Sums
