pub mod Told
mod Asked
mod Goes
pub mod Sealed
mod Grouped
pub mod TurnLemmas
pub mod TextLemmas
pub mod FuelLemmas
pub mod SpendLemmas
