pub mod Kinds
pub mod Bodies
