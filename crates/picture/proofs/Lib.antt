-- What the proofs share on signed coordinates, and laws of the registers.
pub mod Signed
pub mod Laws
pub mod SpriteBytes
