-- What the calls for C tell, beside the definitions of `model`.
pub mod Told
