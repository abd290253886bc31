-- The worked cases, which hold the definitions to the paper.
pub mod Worked
pub mod WorkedFile
pub mod WorkedPage
