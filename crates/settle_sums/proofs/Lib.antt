-- Laws of the carried sums, which are all that other crates use of them.
pub mod Carrying
