-- A file's page by what the reader answers and by the figures of its table.
pub mod FilePages
pub mod Prints
