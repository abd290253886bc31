-- Pages: none exceeds its buffer or is a refusal with 9, what a table's calls may refuse on the way to one, and those of files without an adjustment item.
pub mod Pages
pub mod Unadjusted
