-- Lists of sectors, rounds and tables rearranged by them, and what `permute` promises.
pub mod Orders
pub mod PermutedRounds
pub mod PermutedTables
pub mod Permuted
