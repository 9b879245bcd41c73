-- What a run of the program does.
use Rattle.std.specs.Prelude.{◌≡◌, ◌⊎◌, ℕ, ◌<◌, List, ◌++◌, Some, IfSome, option_map}
use Rattle.scan_segments.specs.Faults.{Rose}
use Rattle.scan_multi.specs.Output.{ChunkData}
use Rattle.scan_manifest.specs.declared.manifest.Manifest.{Manifest}
use Rattle.scan_run.specs.Io.{InputState, OutputState, WasRead}
use Rattle.scan_run.specs.ReadAll.{GaveAll, TookMore}
use Rattle.scan_run.specs.Run.{IsUnbound, WroteNone, printed}
use Rattle.scan_run.specs.Stops.{status_of}
use Rattle.scan_run.specs.declared.run.Stop.{Stop}
use Rattle.scan_union_run.specs.Unions.{IsFailing, IsMisfit, IsSound, IsUnionManifest, IsUnionStop, IsUnited, IsUnreadable}

-- the input was read to its end, and is a manifest with this fact
pub record IsFound (input input' : InputState) (P : Manifest → Type 0) : Type 0 where
  pub read : WasRead input input'
  pub manifest : Manifest
  pub is : IfSome input.left (λ bytes. IsUnionManifest bytes manifest)
  pub fact : P manifest

-- The input was read to its end, and is no manifest of files of older schemas.
pub record IsRefused (input input' : InputState) : Type 0 where
  pub read : WasRead input input'
  pub is : IfSome input.left (λ bytes. (m : Manifest) → ¬ IsUnionManifest bytes m)

-- these are the lines of a scan of the manifest
abbrev pub IsTextOf : List ℕ → Manifest → Type 0
IsTextOf text m = (chunks : List ChunkData) × IsUnited m chunks × (text ≡ printed m chunks)

-- The lines of a scan of the manifest that the input is were written, and nothing else.
pub record IsUnionDone (input input' : InputState) (output output' : OutputState) : Type 0 where
  pub text : List ℕ
  pub lines : IsFound input input' (IsTextOf text)
  pub written : output'.written ≡ option_map (λ before. before ++ text) output.written

-- what was written is a front of such lines
pub record FrontOfUnion (input input' : InputState) (output output' : OutputState) : Type 0 where
  pub text : List ℕ
  pub lines : IsFound input input' (IsTextOf text)
  pub front : List ℕ
  pub rest : List ℕ
  pub parts : text ≡ front ++ rest
  pub written : output'.written ≡ option_map (λ before. before ++ front) output.written

-- nothing was written, or a front of such lines
abbrev pub WroteFrontOfUnion : InputState → InputState → OutputState → OutputState → Type 0
WroteFrontOfUnion input input' output output' = WroteNone output output' ⊎ FrontOfUnion input input' output output'

module _ (status : ℕ) (input input' : InputState) (output output' : OutputState) where
  -- Why a run ends with a status from 2 to 6, as the input's contents show it.
  pub record HasUnionEnd : Type 0 where
    -- the input is no manifest, or its cache counts uses
    pub refused : status ≡ 2 → IsRefused input input'
    -- the request has a fault
    pub unbound : status ≡ 3 → IsFound input input' IsUnbound
    -- it has none, and the files can't be read under the dtype
    pub unreadable : status ≡ 4 → IsFound input input' IsUnreadable
    -- it has none, and what may fail of a file did
    pub failing : status ≡ 5 → IsFound input input' IsFailing
    -- the input or the output failed, or more bytes came than are read
    pub io : status ≡ 6 → (Rose input.faults input'.faults ⊎ Rose output.faults output'.faults) ⊎ TookMore 67108864 input input'

  -- What a run has written.
  pub record UnionWrites : Type 0 where
    -- with a status from 1 to 5 the output is as it was
    pub untouched : 0 < status → status < 6 → output' ≡ output
    -- nothing, unless the output failed
    pub unwritten : status ≡ 6 → Rose output.faults output'.faults ⊎ WroteNone output output'
    -- never anything else than a front of the lines
    pub front : WroteFrontOfUnion input input' output output'

-- ---- what a run answers

-- These bytes were to come. No read and no write failed, and no more bytes came than are read.
pub record WentWell (bytes : List ℕ) (input input' : InputState) (output output' : OutputState) : Type 0 where
  pub told : input.left ≡ Some bytes
  pub read : Rose input.faults input'.faults → ⊥
  pub short : TookMore 67108864 input input' → ⊥
  pub written : Rose output.faults output'.faults → ⊥

-- What a run answers of bytes where all went well: of each input one status, or 7.
pub record Answers (bytes : List ℕ) (status : ℕ) : Type 0 where
  -- no manifest of files of older schemas
  pub none : ((m : Manifest) → ¬ IsUnionManifest bytes m) → (status ≡ 2) ⊎ (status ≡ 7)
  -- a request with a fault
  pub unbound : (m : Manifest) → IsUnionManifest bytes m → IsUnbound m → (status ≡ 3) ⊎ (status ≡ 7)
  -- a file with a fault under the dtype, before which no opener can fail
  pub misfit : (m : Manifest) → IsUnionManifest bytes m → IsMisfit m → (status ≡ 4) ⊎ (status ≡ 7)
  -- the lines
  pub lines : (m : Manifest) → IsUnionManifest bytes m → IsSound m → (status ≡ 0) ⊎ (status ≡ 7)

-- ---- on the way

-- the input was read to its end, and is this manifest
abbrev pub IsGiven : Manifest → InputState → InputState → Type 0
IsGiven m old new = (bytes : List ℕ) × GaveAll bytes old new × IsUnionManifest bytes m

-- a status before there is a manifest
abbrev pub HaltsUnion : ℕ → InputState → InputState → Type 0
HaltsUnion s old new = ((s ≡ 2) × IsRefused old new) ⊎ ((s ≡ 6) × (Rose old.faults new.faults ⊎ TookMore 67108864 old new)) ⊎ (s ≡ 7)

-- a status before anything is written
abbrev pub EndsUnion : ℕ → InputState → InputState → Type 0
EndsUnion s old new = HaltsUnion s old new ⊎ ((m : Manifest) × (stop : Stop) × IsGiven m old new × IsUnionStop m stop × (s ≡ status_of stop))

-- these are chunks of a scan of the manifest that the input is
abbrev pub IsUnionReady : List ChunkData → InputState → InputState → Type 0
IsUnionReady chunks old new = (m : Manifest) × IsGiven m old new × IsUnited m chunks
