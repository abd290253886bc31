-- Rounds in any direction of a sheet: how they rise and settle, how far settled amounts are from an exact balance, and over
-- these what the papers promise of settled amounts (Promises).
pub mod Gauge
pub mod Rounds
pub mod Settling
pub mod Accuracy
pub mod Alike
pub mod Answers
pub mod Promises
pub mod Balances
