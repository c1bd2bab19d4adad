mod Matching
mod Running
mod Coding
