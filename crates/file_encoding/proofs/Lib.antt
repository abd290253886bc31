-- The bytes of records, and of the cells of a word.
pub mod WordLaws
