-- Laws of text put into a buffer, of numbers in decimal, and of a drawn line and an export as text.
pub mod Putting
pub mod Lining
pub mod Painting
pub mod Dumping
