-- What contracts say of a refusal by a number, beside the definitions of `model`.
pub mod Numbered
