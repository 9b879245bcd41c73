-- What a run of the program does.
use Rattle.std.specs.Prelude.{◌≡◌, ◌≤◌, ◌^◌, ℕ, List, [], ◌∷◌, ◌++◌, length, map, Bool, true, false, Option, None, Some, IfSome, option_map, Contains, if◌then◌else◌, codes}
use Rattle.std.specs.Str.{bytes_eq}
use Rattle.std.specs.List.{flat_map}
use Rattle.std.specs.Ordering.{nat_cmp}
use Rattle.std.specs.FinMap as store_map
use Rattle.scan_segments.specs.Source.{Store}
use Rattle.scan_values.specs.DataType.{DataType}
use Rattle.scan_values.specs.Val.{Val}
use Rattle.scan_expr.specs.Infer.{infer}
use Rattle.scan_opener.specs.Opener.{Given, skip, layout_of}
use Rattle.scan_multi.specs.Answer.{Item, ToldFile, answer}
use Rattle.scan_multi.specs.Before.{ReachesFile}
use Rattle.scan_multi.specs.Causes.{counted}
use Rattle.scan_multi.specs.Output.{ChunkData, Admits, given}
use Rattle.scan_multi.specs.Request.{first_request_fault}
use Rattle.scan_segments.specs.Script.{has_number}
use Rattle.scan_multi.specs.Checks.{IsRead, IsOfOtherType, IsIllFormed, EndsPast, rows_in}
use Rattle.scan_multi.specs.Damaged.{IsDamaged}
use Rattle.scan_multi.specs.Overflow.{OverflowsIn}
use Rattle.scan_multi.specs.declared.scan.fault.ScanFault.{ScanFault}
use Rattle.scan_layout.specs.declared.fault.LayoutFault.{LayoutFault}
use Rattle.scan_run.specs.Io.{InputState, OutputState, WasRead}
use Rattle.scan_manifest.specs.declared.manifest.FileSpec.{FileSpec}
use Rattle.scan_manifest.specs.declared.manifest.Manifest.{Manifest}
use Rattle.scan_manifest.specs.Manifest.{IsManifest}
use Rattle.scan_run.specs.Line.{line_of}

-- the words are `scan` alone
abbrev pub is_scan_words : List (List ℕ) → Bool
is_scan_words [] = false
is_scan_words (w ∷ []) = bytes_eq w (codes "scan")
is_scan_words (w ∷ v ∷ ws) = false

-- the segments, by their ids
abbrev pub store_of : List (ℕ × List ℕ) → Store
store_of segments = λ id. store_map.get {R = nat_cmp} (store_map.from_entries segments) id

-- what the opener of a file gives
abbrev pub given_by : FileSpec → Given
given_by f = if f.skip then skip else layout_of f.layout

-- what a file of a manifest tells
abbrev pub told_by : FileSpec → ToldFile
told_by f = record { given = given_by f; store = store_of f.segments }

-- the rows that the manifest asks for
abbrev pub answer_of : Manifest → List Item
answer_of m = answer m.dtype m.request (map told_by m.files)

-- the line of an item: none where it is damaged
abbrev pub item_line : DataType → ℕ → ℕ → Option Val → List ℕ
item_line d file row None = []
item_line d file row (Some v) = line_of d file row v

-- the lines of rows of this dtype
abbrev pub lines_of : DataType → List Item → List ℕ
lines_of d items = flat_map (λ item. item_line d item.file item.row item.value) items

-- what some chunks of a manifest's rows print
abbrev pub printed : Manifest → List ChunkData → List ℕ
printed m chunks = lines_of (infer m.dtype m.request.projection) (given chunks)

-- a manifest whose request the checks let pass, and an output that it admits
pub record IsScanned (m : Manifest) (chunks : List ChunkData) : Type 0 where
  pub passes : first_request_fault m.workers m.dtype m.request ≡ None
  pub admits : Admits m.dtype m.request (answer_of m) chunks

-- The input was read to its end and is a manifest. The lines of an output that it admits were written, and nothing else.
pub record IsDone (input input' : InputState) (output output' : OutputState) : Type 0 where
  pub read : WasRead input input'
  pub manifest : Manifest
  pub is : IfSome input.left (λ bytes. IsManifest bytes manifest)
  pub chunks : List ChunkData
  pub scanned : IsScanned manifest chunks
  pub written : output'.written ≡ option_map (λ before. before ++ printed manifest chunks) output.written

-- the input was read to its end, and is no manifest
pub record IsRefused (input input' : InputState) : Type 0 where
  pub read : WasRead input input'
  pub is : IfSome input.left (λ bytes. (m : Manifest) → ¬ IsManifest bytes m)

-- the input was read to its end, and is a manifest with this fact
pub record IsFound (input input' : InputState) (P : Manifest → Type 0) : Type 0 where
  pub read : WasRead input input'
  pub manifest : Manifest
  pub is : IfSome input.left (λ bytes. IsManifest bytes manifest)
  pub fact : P manifest

-- the request has a fault: no workers, partitions, a reversed range, or an expression that does not bind
abbrev pub IsUnbound : Manifest → Type 0
IsUnbound m = (e : ScanFault) × (first_request_fault m.workers m.dtype m.request ≡ Some e)

-- What is wrong with the file at a place: its layout is of another dtype, or not well-formed, or has fewer rows than the
-- range; a named segment is missing or damaged; an expression overflows; or the files, in an ordered scan those up to this
-- one, have 2 ^ 64 rows or more.
pub data IsBadFile (m : Manifest) (place : ℕ) (f : FileSpec) : Type 0 where
  of_type : IsOfOtherType m.dtype (given_by f) → IsBadFile m place f
  of_layout : (fault : LayoutFault) → IsIllFormed m.dtype fault (given_by f) → IsBadFile m place f
  of_range : EndsPast m.dtype m.request (given_by f) → IsBadFile m place f
  of_segment : (id : ℕ) → IsDamaged m.dtype m.request (told_by f) id → IsBadFile m place f
  of_overflow : OverflowsIn m.dtype m.request (given_by f) (store_of f.segments) → IsBadFile m place f
  of_rows : 2 ^ 64 ≤ rows_in (counted m.request.ordered place (map told_by m.files)) → IsBadFile m place f

-- the request itself has no fault
abbrev pub HasNoFault : Manifest → Type 0
HasNoFault m = first_request_fault m.workers m.dtype m.request ≡ None

-- in an ordered scan the files before this place leave it to go on: their parts hold no damaged item and fewer than the limit
abbrev pub IsReached : Manifest → ℕ → Type 0
IsReached m place = m.request.ordered ≡ true → ReachesFile m.dtype m.request (map told_by m.files) place

-- the request has no fault, and a file that the scan comes to can't be read
pub record IsUnreadable (m : Manifest) : Type 0 where
  pub late : HasNoFault m
  pub file : FileSpec
  pub there : Contains m.files file
  pub bad : IsBadFile m there.0 file
  pub before : IsReached m there.0

-- what of a file may fail, where a call of its script does: its opener, or the source of a file that is read
pub data CanFail (m : Manifest) (f : FileSpec) : Type 0 where
  of_opener : has_number f.opener.fail ≡ true → CanFail m f
  of_source : has_number f.source.fail ≡ true → IsRead m.dtype m.request (given_by f) → CanFail m f

-- the request has no fault, and what may fail of a file that the scan comes to did
pub record IsFailing (m : Manifest) : Type 0 where
  pub late : HasNoFault m
  pub file : FileSpec
  pub there : Contains m.files file
  pub failing : CanFail m file
  pub before : IsReached m there.0

-- nothing was written
abbrev pub WroteNone : OutputState → OutputState → Type 0
WroteNone old new = new.written ≡ old.written
