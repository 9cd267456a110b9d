mod Figures
mod Lines
mod Rows
