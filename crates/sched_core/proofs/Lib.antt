pub mod Members
pub mod Keys
pub mod Next
pub mod Maps
pub mod Finding
pub mod Moving
pub mod Allowing
pub mod Determined
