-- How many rounds always suffice: for any gauge, then for productions, prices and inverse columns, and what the calls promise.
pub mod Enough
pub mod Budgets
pub mod Calls
