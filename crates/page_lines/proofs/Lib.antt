-- Lines written one after another.
pub mod LineLaws
