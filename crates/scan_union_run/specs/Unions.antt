-- Manifests of files of older schemas: what their scan gives, and why it stops.
use Rattle.std.specs.Prelude.{◌≡◌, ◌≢◌, ℕ, List, [], ◌∷◌, Bool, true, false, Option, None, Some, Contains, map, take, slice_get, codes}
use Rattle.std.specs.Str.{bytes_eq}
use Rattle.scan_segments.specs.Script.{has_number}
use Rattle.scan_caches.specs.declared.bounded.SegmentEviction.{SegmentEviction}
use Rattle.scan_caches.specs.declared.bounded.SegmentEviction.TheVariants.{Lru, TinyLfu}
use Rattle.scan_multi.specs.Answer.{ToldFile}
use Rattle.scan_multi.specs.Output.{ChunkData, Admits}
use Rattle.scan_manifest.specs.declared.manifest.FileSpec.{FileSpec}
use Rattle.scan_manifest.specs.declared.manifest.Manifest.{Manifest}
use Rattle.scan_manifest.specs.Manifest.{IsManifest}
use Rattle.scan_run.specs.Run.{HasNoFault, IsUnbound, told_by}
use Rattle.scan_run.specs.Stops.{stop_of}
use Rattle.scan_run.specs.declared.run.Stop.{Stop}
use Rattle.scan_run.specs.declared.run.Stop.TheVariants.{Unbound, Unreadable, Failed, NoMemory}
use Rattle.scan_union.specs.Under.{first_file_fault}
use Rattle.scan_union.specs.UnionAnswer.{union_answer}
use Rattle.scan_union.specs.UnionCauses.{IsDamagedBehind, OverflowsUnder, named_behind}
use Rattle.scan_union.specs.declared.fault.UnionFault.{UnionFault}
use Rattle.scan_union.specs.declared.fault.UnionFault.TheVariants as fault

-- the words are `union` alone
abbrev pub is_union_words : List (List ℕ) → Bool
is_union_words [] = false
is_union_words (w ∷ []) = bytes_eq w (codes "union")
is_union_words (w ∷ v ∷ ws) = false

-- a cache drops first what was not used for longest
abbrev pub is_lru : SegmentEviction → Bool
is_lru Lru = true
is_lru TinyLfu = false

-- the bytes are this manifest, whose cache is such a one
abbrev pub IsUnionManifest : List ℕ → Manifest → Type 0
IsUnionManifest bytes m = IsManifest bytes m × (is_lru m.cache.eviction ≡ true)

-- what the files of a manifest tell
abbrev pub told_of : Manifest → List ToldFile
told_of m = map told_by m.files

-- the first fault of these files under the manifest's dtype, in their order
abbrev pub fault_among : Manifest → List ToldFile → Option UnionFault
fault_among m files = first_file_fault m.dtype m.request files

-- the request has no fault, and asks for rows
pub record AsksRows (m : Manifest) : Type 0 where
  pub late : HasNoFault m
  pub room : m.request.limit ≢ Some 0

-- ---- what is given

-- What a scan of the manifest's files under its dtype gives.
pub record IsUnited (m : Manifest) (chunks : List ChunkData) : Type 0 where
  -- the request has no fault
  pub passes : HasNoFault m
  -- nor has a file, where rows are asked for
  pub files : m.request.limit ≢ Some 0 → fault_among m (told_of m) ≡ None
  -- the rows of the files, read as of the dtype, as the request admits them
  pub admits : Admits m.dtype m.request (union_answer m.dtype m.request (told_of m)) chunks

-- ---- why nothing is given

-- a segment of the file behind one that may be asked is missing or damaged, or an expression overflows on a widened value
pub data IsSpoilt (m : Manifest) (f : FileSpec) : Type 0 where
  of_segment : (id : ℕ) → IsDamagedBehind m.dtype m.request (told_by f) id → IsSpoilt m f
  of_overflow : OverflowsUnder m.dtype m.request (told_by f) → IsSpoilt m f

-- why files can't be read: one has a fault under the dtype, or none has and one is spoilt
pub data CantBeRead (m : Manifest) : Type 0 where
  has_fault : (e : UnionFault) → fault_among m (told_of m) ≡ Some e → CantBeRead m
  has_spoilt : fault_among m (told_of m) ≡ None → (f : FileSpec) → Contains m.files f → IsSpoilt m f → CantBeRead m

-- rows are asked for, and the files can't be read
pub record IsUnreadable (m : Manifest) : Type 0 where
  pub asks : AsksRows m
  pub why : CantBeRead m

-- What of the file at a place may fail, where a call of its script does: its opener, where no file before it has a fault;
-- its source, where no file has one and a segment of this file may be asked.
pub data CanFail (m : Manifest) (place : ℕ) (f : FileSpec) : Type 0 where
  of_opener : has_number f.opener.fail ≡ true → fault_among m (take place (told_of m)) ≡ None → CanFail m place f
  of_source : has_number f.source.fail ≡ true → fault_among m (told_of m) ≡ None → (id : ℕ)
      → Contains (named_behind m.dtype m.request (told_by f)) id → CanFail m place f

-- rows are asked for, and what may fail of a file did
pub record IsFailing (m : Manifest) : Type 0 where
  pub asks : AsksRows m
  pub place : ℕ
  pub file : FileSpec
  pub there : slice_get m.files place ≡ Some file
  pub failing : CanFail m place file

-- why a run stops by a fault of its scan
abbrev pub stop_by : UnionFault → Stop
stop_by (fault.Scan e) = stop_of e
stop_by (fault.TooManySegments file) = Unreadable
stop_by fault.NoMemory = NoMemory

-- the reason is one that the manifest shows
abbrev pub IsUnionStop : Manifest → Stop → Type 0
IsUnionStop m Unbound = IsUnbound m
IsUnionStop m Unreadable = IsUnreadable m
IsUnionStop m Failed = IsFailing m
IsUnionStop m NoMemory = Unit {0}

-- ---- which manifests have which end

-- rows are asked for, and among files of which no opener can fail, the first of the list, one has a fault
pub record IsMisfit (m : Manifest) : Type 0 where
  pub asks : AsksRows m
  pub count : ℕ
  pub opens : (f : FileSpec) → Contains (take count m.files) f → has_number f.opener.fail ≡ true → ⊥
  pub found : UnionFault
  pub first : fault_among m (take count (told_of m)) ≡ Some found

-- The request has no fault. Where it asks for rows, no file has a fault or is spoilt, and nothing can fail.
pub record IsSound (m : Manifest) : Type 0 where
  pub passes : HasNoFault m
  pub good : m.request.limit ≢ Some 0 → fault_among m (told_of m) ≡ None
  pub reads : m.request.limit ≢ Some 0 → (f : FileSpec) → Contains m.files f → IsSpoilt m f → ⊥
  pub works : m.request.limit ≢ Some 0 → (place : ℕ) (f : FileSpec) → slice_get m.files place ≡ Some f → CanFail m place f → ⊥
