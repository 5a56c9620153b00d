-- A served call does to the chip what the line step does; and the contract can be met.
pub mod Step
pub mod Possible
