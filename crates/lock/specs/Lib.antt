-- 01, "Lock and ports": the lock, as the document says it of the bytes since reset, and as the machine keeps it.
pub mod History
pub mod Machine
