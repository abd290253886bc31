-- What the checks of a table say of it, its sheets one from the other, and what they are good for.
pub mod Demands
pub mod Tables
pub mod Prepared
pub mod Unadjusted
pub mod Derived
pub mod Demanded
