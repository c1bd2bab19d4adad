pub mod Compile
pub mod Binds
pub mod Lengths
pub mod Instance
pub mod Cost
pub mod Measure
pub mod Trees
pub mod Rests
