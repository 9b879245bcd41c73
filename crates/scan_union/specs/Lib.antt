pub mod Under
pub mod Seats
pub mod Opens
pub mod UnionAnswer
pub mod UnionCauses
pub mod UnionScans
pub mod Made
