-- Table files: what was written is read back, the longest file, inputs that agree in their first bytes, and what a reading may be.
pub mod Encoding
pub mod Files
pub mod RecordKinds
pub mod Questions
pub mod Walks
pub mod Counts
pub mod Lengths
pub mod Prefixes
pub mod Readings
pub mod Marks
pub mod Beyond
pub mod Unadjusted
pub mod Decoding
