-- 02, L12: lists placed in an area of RAM.
pub mod Area
pub mod Room
pub mod Place
pub mod Remove
pub mod InUse
pub mod Search
