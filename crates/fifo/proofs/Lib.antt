mod Waiting
mod Orders
