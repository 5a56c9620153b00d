-- Laws of the contents, and what the proofs share.
pub mod Off
pub mod Blocks
pub mod Same
pub mod ContentsLaws
pub mod WidthsLaws
pub mod Back
pub mod Determined
pub mod Shows
