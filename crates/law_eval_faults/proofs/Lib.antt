pub mod Refused
pub mod Read
pub mod Uneven
pub mod Caused
pub mod Meeting
