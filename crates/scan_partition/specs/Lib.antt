-- A reader has to read six files: Items (the items of a struct that an expression uses), Expand (`$` by the struct's
-- fields), Partition (the parts and the root), Split (what partitioning over a struct keeps of the whole), RowSplit (the
-- same by row numbers) and Lists (what is needed of a list). Of the others Rows, Tighter, Partable, Had, Unnumbered,
-- Stepped, Joining and RowJoining are words of clauses; Laws, Needing and ListUses state laws; the rest mirror the code.
pub mod Items
pub mod Expand
pub mod Partition
pub mod Rows
pub mod Laws
pub mod Clean
pub mod Found
pub mod Lift
pub mod Lists
pub mod Direct
pub mod Rewrite
pub mod Rewritings
pub mod Soles
pub mod Planted
pub mod Plans
pub mod Leaves
pub mod Shallow
pub mod Divided
pub mod Dividing
pub mod Conditions
pub mod Split
pub mod Joining
pub mod ListUses
pub mod Needing
pub mod Tighter
pub mod RowDivided
pub mod RowSplit
pub mod Partable
pub mod Had
pub mod Unnumbered
pub mod Stepped
pub mod Places
pub mod RowJoining
