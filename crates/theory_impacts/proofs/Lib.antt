-- What a scheme adds: the rise of settled amounts from a start to one that is nowhere below it, and what the call of it promises.
pub mod Rises
pub mod Impacts
