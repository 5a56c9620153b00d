-- Laws of the record.
pub mod Laws
