-- The objects in memory that a file of a manifest tells.
use Rattle.std.specs.Prelude.{◌≡◌, List, [], ◌∷◌, Some, All}
use Rattle.scan_segments.specs.Source.{none_live}
use Rattle.scan_segments.specs.MemorySource.{source_state}
use Rattle.scan_segments.specs.Cache.{empty_cache}
use Rattle.scan_segments.specs.Script.{ScriptState, has_number}
use Rattle.scan_segments.specs.declared.memory_source.MemorySource.{MemorySource}
use Rattle.scan_multi.specs.Lawful.{IsLawful, IsIdle}
use Rattle.scan_opener.specs.Opener.{OpenerState}
use Rattle.scan_opener.specs.OpenerMemory.{opener_state}
use Rattle.scan_opener.specs.declared.opener.MemoryOpener.{MemoryOpener}
use Rattle.scan_drive.specs.declared.files.ScanFile.{ScanFile}
use Rattle.scan_manifest.specs.declared.manifest.Calls.{Calls}
use Rattle.scan_manifest.specs.declared.manifest.FileSpec.{FileSpec}
use Rattle.scan_run.specs.Run.{given_by, store_of}

-- a memory opener, as an opener
abbrev pub memory_opener : MemoryOpener → OpenerState
memory_opener s = opener_state s.gives s.script s.faults s.polls

-- it has the file's name, gives its layout or skips it, holds its segments, can fail where a call of its scripts does, and has no live request
pub record IsFileOf (spec : FileSpec) (f : ScanFile MemoryOpener MemorySource) : Type 0 where
  pub source_id : f.source_id ≡ spec.id
  pub opener_can_fail : (memory_opener f.opener).can_fail ≡ has_number spec.opener.fail
  pub gives : (memory_opener f.opener).gives ≡ Some (given_by spec)
  pub holds : (source_state f.source).holds ≡ Some (store_of spec.segments)
  pub source_can_fail : (source_state f.source).can_fail ≡ has_number spec.source.fail
  pub idle : (source_state f.source).live ≡ none_live

-- these calls fail and wait, of which none was made yet
abbrev pub script_of : Calls → ScriptState
script_of calls = record { failing = calls.fail; pending = calls.pending; next = Some 0 }

-- its opener and its source have the calls that the manifest names
pub record HasScripts (spec : FileSpec) (f : ScanFile MemoryOpener MemorySource) : Type 0 where
  pub opener : f.opener.script ≡ script_of spec.opener
  pub source : f.source.script ≡ script_of spec.source

-- the files of these, one by one
abbrev pub AreFilesOf : List FileSpec → List (ScanFile MemoryOpener MemorySource) → Type 0
AreFilesOf [] [] = Unit {0}
AreFilesOf (spec ∷ specs) (f ∷ files) = IsFileOf spec f × AreFilesOf specs files
AreFilesOf _ _ = ⊥

-- files that may be scanned over an empty cache: none has a live request, and they are lawful
pub record AreReady (files : List (ScanFile MemoryOpener MemorySource)) : Type 0 where
  pub idle : All (IsIdle memory_opener source_state) files
  pub lawful : IsLawful memory_opener source_state files empty_cache
