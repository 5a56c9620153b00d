-- 01, "Lock and ports" (6845 data writes) and "One line" (raster, split, counters).
pub mod Registers
pub mod Line
