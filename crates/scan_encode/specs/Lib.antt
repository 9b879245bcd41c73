pub mod Rows
pub mod RowsIn
pub mod SegmentsView
pub mod Encoded
pub mod Parts
pub mod Faults
pub mod Batches
