-- Written table files: named cells in ascending order, the cells of a table, and what is promised of an archive.
pub mod Ascending
pub mod Cells
pub mod Holding
pub mod Archives
