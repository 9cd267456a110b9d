mod Repeats
mod Swallows
