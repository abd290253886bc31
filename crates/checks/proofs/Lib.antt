-- Laws of answers whose refusal has any number.
pub mod Numbered
