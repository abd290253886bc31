pub mod MarkLaws
pub mod OneLaws
