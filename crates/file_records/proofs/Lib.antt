-- Laws of the kinds of records.
pub mod RecordLaws
