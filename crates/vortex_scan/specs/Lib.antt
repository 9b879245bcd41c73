-- The words of contracts: those of each crate under one name, as they stand there. The definitions of scan_multi's
-- specs/Answer are reached as Rattle.vortex_scan.specs.Multi.Answer.
pub mod Words
pub use Rattle.scan_values.specs as Values
pub use Rattle.scan_expr.specs as Expr
pub use Rattle.scan_partition.specs as Partition
pub use Rattle.scan_segments.specs as Segments
pub use Rattle.scan_caches.specs as Caches
pub use Rattle.scan_sharing.specs as Sharing
pub use Rattle.scan_spelling.specs as Spelling
pub use Rattle.scan_layout.specs as Layout
pub use Rattle.scan_columns.specs as Columns
pub use Rattle.scan_splits.specs as Splits
pub use Rattle.scan_plans.specs as Plans
pub use Rattle.scan_shared.specs as Shared
pub use Rattle.scan_readers.specs as Readers
pub use Rattle.scan_limit.specs as Limit
pub use Rattle.scan_streams.specs as Streams
pub use Rattle.scan_core.specs as Core
pub use Rattle.scan_collect.specs as Collect
pub use Rattle.scan_opener.specs as Opener
pub use Rattle.scan_drive.specs as Drive
pub use Rattle.scan_file.specs as File
pub use Rattle.scan_multi.specs as Multi
pub use Rattle.scan_sources.specs as Sources
pub use Rattle.scan_multi_sources.specs as MultiSources
pub use Rattle.scan_polls.specs as Polls
pub use Rattle.scan_seek.specs as Seek
pub use Rattle.scan_places.specs as Places
pub use Rattle.scan_lookup.specs as Lookup
pub use Rattle.scan_widen.specs as Widen
pub use Rattle.scan_widened.specs as Widened
pub use Rattle.scan_union.specs as Union
pub use Rattle.scan_groups.specs as Groups
pub use Rattle.scan_disk.specs as Disk
pub use Rattle.scan_encode.specs as Encode
pub use Rattle.scan_disk_writer.specs as DiskWriter
