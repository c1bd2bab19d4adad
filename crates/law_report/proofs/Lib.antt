mod Matching
mod Instances
