pub mod Frames
mod Runs
