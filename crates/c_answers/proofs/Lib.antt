-- Laws of reports.
pub mod Numbers
