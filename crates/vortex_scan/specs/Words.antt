-- The words that a contract over a scan needs first, under one name: what files, sources, openers and caches are to
-- contracts, and what a scan of them gives.
pub use Rattle.scan_values.specs.DataType.{DataType}
pub use Rattle.scan_values.specs.Val.{Val, null_val, bool_val, int_val, text_val, list_val, struct_val}
pub use Rattle.scan_expr.specs.Expr.{Expr}
pub use Rattle.scan_expr.specs.Eval.{eval}
pub use Rattle.scan_expr.specs.declared.request.ScanRequest.{ScanRequest}
pub use Rattle.scan_segments.specs.Cache.{CacheState, empty_cache}
pub use Rattle.scan_segments.specs.Requests.{Requested, source_of}
pub use Rattle.scan_segments.specs.Source.{SourceState, Store, none_live}
pub use Rattle.scan_segments.specs.declared.segment.SegmentKey.{SegmentKey}
pub use Rattle.scan_layout.specs.Form.{HasForm, IsWellFormed}
pub use Rattle.scan_layout.specs.Layout.{Layout, dtype_of, rows_of}
pub use Rattle.scan_layout.specs.RowValue.{row_value}
pub use Rattle.scan_opener.specs.Opener.{Given, OpenerState, layout_of, skip}
pub use Rattle.scan_opener.specs.OpenerMemory.{given_of, opener_state}
pub use Rattle.scan_opener.specs.declared.opener.MemoryOpener.{MemoryOpener}
pub use Rattle.scan_drive.specs.Taking.{IsTaking}
pub use Rattle.scan_drive.specs.declared.files.ScanFile.{ScanFile}
pub use Rattle.scan_multi.specs.Answer.{Item, ToldFile, answer}
pub use Rattle.scan_multi.specs.Lawful.{IsIdle, IsLawful, Tells, told, told_file}
pub use Rattle.scan_multi.specs.Output.{Admits, ChunkData, IsChunk, IsGiven, OutputData, chunk_items, given, limited}
pub use Rattle.scan_multi.specs.Scans.{IsRefusedFor, IsScan, ScanMoves}
pub use Rattle.scan_multi.specs.Taken.{EndsScan, IsFront, TakesFront}
