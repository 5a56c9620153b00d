-- 02, L12: the chip's calls for lists placed in RAM.
pub mod InUse
pub mod Contract
