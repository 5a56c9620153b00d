-- 01, "The register page": what stands at each address, whose it is (02, L9), and what a register does with a byte.
pub mod Address
pub mod Owners
pub mod Registers
