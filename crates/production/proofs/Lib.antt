-- Laws that the proofs of production and price share.
pub mod Solving
pub mod Refusals
