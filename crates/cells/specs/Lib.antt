-- What contracts say of a matrix that is lent.
pub mod Sheets
