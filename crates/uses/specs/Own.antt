-- What a caller concludes of a scan over a source of its own.
use Rattle.std.specs.Prelude.{◌≡◌, ℕ, List, [], ◌∷◌, Some, All, false, slice_get}
use Rattle.vortex_scan.specs.Segments.Cache.{empty_cache}
use Rattle.vortex_scan.specs.Segments.Requests.{Requested, source_of}
use Rattle.vortex_scan.specs.Segments.Source.{SourceState, Store}
use Rattle.vortex_scan.specs.Layout.Layout.{Layout}
use Rattle.vortex_scan.specs.Opener.Opener.{OpenerState, layout_of}
use Rattle.vortex_scan.specs.Opener.OpenerMemory.{opener_state}
use Rattle.vortex_scan.specs.Opener.declared.opener.MemoryOpener.{MemoryOpener}
use Rattle.vortex_scan.specs.Drive.declared.files.ScanFile.{ScanFile}
use Rattle.vortex_scan.specs.Multi.Answer.{ToldFile}
use Rattle.vortex_scan.specs.Multi.Lawful.{IsIdle, IsLawful, told}
use Rattle.uses.specs.declared.own_source.TableSource.{TableSource}

-- the segments of a table, by their places
abbrev pub stored : List (List ℕ) → Store
stored segments id = slice_get segments id

-- a source of a table: it holds what stands there, never fails, and puts off no answer
abbrev pub table_state : List (List ℕ) → Requested → SourceState
table_state segments requests = source_of requests (Some (stored segments)) 0 0 false

abbrev pub table_source : TableSource → SourceState
table_source s = table_state s.segments.items s.requests

-- an opener in memory, as an opener
abbrev pub memory_opener : MemoryOpener → OpenerState
memory_opener s = opener_state s.gives s.script s.faults s.polls

-- a file of this layout, whose segments stand in a table
abbrev pub table_file : Layout → List (List ℕ) → ToldFile
table_file layout segments = record { given = layout_of layout; store = stored segments }

-- One file, which tells this: no request of it is live, and it is lawful over a cache that keeps nothing.
pub record AreOne {O S : Type 0} (opener : O → OpenerState) (source : S → SourceState) (file : ToldFile) (files : List (ScanFile O S)) : Type 0 where
  pub idle : All (IsIdle opener source) files
  pub lawful : IsLawful opener source files empty_cache
  pub tell : told opener source files ≡ file ∷ []
