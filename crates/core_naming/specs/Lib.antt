pub mod Decimal
pub mod Generated
