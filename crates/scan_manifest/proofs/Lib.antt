pub mod Lists
pub mod Levels
pub mod Firsts
pub mod CallerLemmas
mod HexLanes
mod HexPairs
