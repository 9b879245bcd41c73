pub mod Falling
mod RowsOf
mod Leaves
mod Having
mod Trees
mod Lists
mod Fields
mod Whole
mod Lending
