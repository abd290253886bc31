-- Laws that the proofs of these functions share.
pub mod Passed
