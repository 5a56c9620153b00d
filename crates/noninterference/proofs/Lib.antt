-- What each call does to what one editor can tell, and the claim over two runs; that such runs exist, and that its premises are needed.
pub mod Sames
pub mod Blocks
pub mod Puts
pub mod Host
pub mod Records
pub mod Sights
pub mod Marks
pub mod Claim
pub mod Exist
pub mod Needed
pub mod Removals
