-- Groups of sectors, and tables merged by them.
pub mod Totals
pub mod Partitions
pub mod Merging
pub mod Singles
pub mod Limits
pub mod Aggregated
