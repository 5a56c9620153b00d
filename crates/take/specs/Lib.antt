-- Takes on disc: a record, the file of a take, what writing and opening answer, and what the writer promises; and the code's own parts.
pub mod Bytes
pub mod Record
pub mod Kind
pub mod File
pub mod Write
pub mod Open
pub mod Contract
pub mod Parts
