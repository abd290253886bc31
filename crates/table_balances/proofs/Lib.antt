-- Laws that the proofs of these functions and of their callers share.
pub mod SliceLaws
