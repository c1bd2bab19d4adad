mod Scalars
mod Products
mod Fits
mod Divisions
mod Sums
