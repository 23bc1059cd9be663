pub mod Turns
mod First
