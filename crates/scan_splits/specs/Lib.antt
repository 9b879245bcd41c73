pub mod RowSpans
pub mod RowLists
pub mod Arrivals
pub mod Wanted
pub mod Runs
pub mod ListSplits
pub mod SplitFaults
pub mod LayoutSplits
