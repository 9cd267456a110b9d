mod Ages
mod Turns
