-- 02, L5: the contents of the registers, what a read shows of them, and the widths that a run from reset keeps to.
pub mod Contents
pub mod Shown
pub mod Widths
