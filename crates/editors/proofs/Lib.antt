pub mod Which
