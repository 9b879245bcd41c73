-- A scan of files that stand under another dtype.
use Rattle.std.specs.Prelude.{◌≡◌, ℕ, List, Option, option_and_then, slice_get}
use Rattle.scan_values.specs.DataType.{DataType}
use Rattle.scan_expr.specs.declared.request.ScanRequest.{ScanRequest}
use Rattle.scan_segments.specs.Cache.{CacheState}
use Rattle.scan_segments.specs.Source.{SourceState}
use Rattle.scan_segments.specs.declared.segment.SegmentKey.{SegmentKey}
use Rattle.scan_opener.specs.Opener.{OpenerState}
use Rattle.scan_opener.specs.OpenerMemory.{opener_state}
use Rattle.scan_opener.specs.declared.opener.MemoryOpener.{MemoryOpener}
use Rattle.scan_drive.specs.declared.files.ScanFile.{ScanFile}
use Rattle.scan_multi.specs.Scans.{IsRefusedFor}
use Rattle.scan_multi.specs.declared.scan.fault.ScanFault.{ScanFault}
use Rattle.scan_widened.specs.Identity.{inner_of}
use Rattle.scan_widened.specs.Sources.{UnionState, state_of}
use Rattle.scan_union.specs.Under.{fault_over}
use Rattle.scan_union.specs.declared.fault.UnionFault.{UnionFault}

-- an opener that gives what it was made with, as an opener
abbrev pub memory : MemoryOpener → OpenerState
memory o = opener_state o.gives o.script o.faults o.polls

-- the segment of a file behind one of it under the dtype
module _ {S : Type 0} where
  abbrev pub inner_in : List (ScanFile MemoryOpener (UnionState S)) → ℕ → ℕ → Option ℕ
  inner_in made place segment = option_and_then (λ (f : ScanFile MemoryOpener (UnionState S)). inner_of (f.source).behind segment) (slice_get made place)

module _ {S : Type 0} (source : S → SourceState) (workers : ℕ) (d : DataType) (request : ScanRequest)
    (old new : List (ScanFile MemoryOpener (UnionState S))) (cache cache' : CacheState SegmentKey) where
  -- it is refused, and why is told as of the files themselves
  pub record IsMadeFault (e : UnionFault) : Type 0 where
    pub why : ScanFault
    pub refused : IsRefusedFor memory (state_of source) workers d request old new cache cache' why
    pub is : e ≡ fault_over (inner_in new) why
