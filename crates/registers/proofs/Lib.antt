-- Laws of the registers for the crates above.
pub mod AddressLaws
pub mod ChannelWrites
