-- What a run of the program does.
use Rattle.std.specs.Prelude.{◌≡◌, ◌⊎◌, ℕ, ◌<◌, ◌≤◌, List, [], ◌∷◌, ◌++◌, Bool, true, false, None, Some, IfSome, All, Contains, length, option_map, slice_get, codes}
use Rattle.std.specs.Str.{bytes_eq}
use Rattle.scan_segments.specs.Faults.{Rose}
use Rattle.scan_segments.specs.Script.{has_number}
use Rattle.scan_expr.specs.Typing.{bind_fault}
use Rattle.scan_expr.specs.declared.op.BindFault.{BindFault}
use Rattle.scan_layout.specs.declared.fault.LayoutFault.{LayoutFault}
use Rattle.scan_lookup.specs.Causes.{IsFlawedAt, OverflowsAt}
use Rattle.scan_lookup.specs.declared.fault.LookupFault.{LookupFault}
use Rattle.scan_lookup.specs.declared.fault.LookupFault.TheVariants as fault
use Rattle.scan_places.specs.Walks.{GivesRow, LacksRow}
use Rattle.scan_places.specs.declared.place.Place.{Place}
use Rattle.scan_manifest.specs.declared.manifest.FileSpec.{FileSpec}
use Rattle.scan_multi.specs.Answer.{ToldFile}
use Rattle.scan_multi.specs.Checks.{IsIllFormed, IsOfOtherType}
use Rattle.scan_run.specs.Io.{InputState, OutputState, WasRead}
use Rattle.scan_run.specs.ReadAll.{GaveAll, TookMore}
use Rattle.scan_run.specs.Run.{WroteNone, given_by}
use Rattle.scan_lookup_run.specs.Jobs.{IsJob}
use Rattle.scan_lookup_run.specs.Replied.{IsAnswered, IsTextOf, places_of, projected, told_files}
use Rattle.scan_lookup_run.specs.declared.reading.Job.{Job}

-- the words are `lookup` alone
abbrev pub is_lookup_words : List (List ℕ) → Bool
is_lookup_words [] = false
is_lookup_words (w ∷ []) = bytes_eq w (codes "lookup")
is_lookup_words (w ∷ v ∷ ws) = false

-- the input was read to its end and asks for this
pub record IsGiven (j : Job) (old new : InputState) : Type 0 where
  pub bytes : List ℕ
  pub all : GaveAll bytes old new
  pub asks : IsJob bytes j

-- The input was read to its end and is a job. The lines of its places, all of which are answered, were written, and
-- nothing else.
pub record IsLookupDone (input input' : InputState) (output output' : OutputState) : Type 0 where
  pub read : WasRead input input'
  pub job : Job
  pub is : IfSome input.left (λ bytes. IsJob bytes job)
  pub text : List ℕ
  pub lines : IsTextOf job text
  pub written : output'.written ≡ option_map (λ before. before ++ text) output.written

-- the input was read to its end, and is no job
pub record IsNoJob (input input' : InputState) : Type 0 where
  pub read : WasRead input input'
  pub is : IfSome input.left (λ bytes. (j : Job) → ¬ IsJob bytes j)

-- the input was read to its end, and is a job with this fact
pub record IsJobFound (input input' : InputState) (P : Job → Type 0) : Type 0 where
  pub read : WasRead input input'
  pub job : Job
  pub is : IfSome input.left (λ bytes. IsJob bytes job)
  pub fact : P job

-- the projection binds
abbrev pub IsBound : Job → Type 0
IsBound j = bind_fault j.dtype j.projection ≡ None

-- it does not
abbrev pub IsUnbound : Job → Type 0
IsUnbound j = (f : BindFault) × (bind_fault j.dtype j.projection ≡ Some f)

-- a file that a place names
pub record IsNamed (j : Job) (p : Place) (f : FileSpec) : Type 0 where
  pub among : Contains (places_of j) p
  pub there : slice_get j.files p.file ≡ Some f

-- What is wrong with a place. There is no such file, or its opener skips it or gives fewer rows; the file is of another
-- dtype or not well-formed; a segment that the row touches at a needed leaf is missing or damaged; the projection overflows.
pub data IsBadPlace (j : Job) (p : Place) : Type 0 where
  of_list : length j.files ≤ p.file → IsBadPlace j p
  of_row : (f : ToldFile) → slice_get (told_files j) p.file ≡ Some f → LacksRow j.dtype p.row f.given → IsBadPlace j p
  of_type : (f : ToldFile) → slice_get (told_files j) p.file ≡ Some f → IsOfOtherType j.dtype f.given → IsBadPlace j p
  of_layout : (f : ToldFile) → slice_get (told_files j) p.file ≡ Some f → (l : LayoutFault) → IsIllFormed j.dtype l f.given → IsBadPlace j p
  of_segment : (f : ToldFile) → slice_get (told_files j) p.file ≡ Some f → (id : ℕ) → IsFlawedAt (projected j) f (p.row ∷ []) id → IsBadPlace j p
  of_overflow : (f : ToldFile) → slice_get (told_files j) p.file ≡ Some f → OverflowsAt (projected j) p.row f → IsBadPlace j p

-- the projection binds, and a place is bad
pub record IsUnreadable (j : Job) : Type 0 where
  pub bound : IsBound j
  pub place : Place
  pub among : Contains (places_of j) place
  pub bad : IsBadPlace j place

-- what may fail at a place, where a call of a script does: the opener of its file, or the source of one that has its row
pub data CanFail (j : Job) (p : Place) (f : FileSpec) : Type 0 where
  of_opener : has_number f.opener.fail ≡ true → CanFail j p f
  of_source : has_number f.source.fail ≡ true → GivesRow j.dtype p.row (given_by f) → CanFail j p f

-- the projection binds, and what may fail at a place did
pub record IsFailed (j : Job) : Type 0 where
  pub bound : IsBound j
  pub place : Place
  pub file : FileSpec
  pub named : IsNamed j place file
  pub failing : CanFail j place file

-- what was written is a front of the lines of the places that the input, a job, asks for
pub record FrontOfLookup (input input' : InputState) (output output' : OutputState) : Type 0 where
  pub read : WasRead input input'
  pub job : Job
  pub is : IfSome input.left (λ bytes. IsJob bytes job)
  pub text : List ℕ
  pub lines : IsTextOf job text
  pub front : List ℕ
  pub rest : List ℕ
  pub parts : text ≡ front ++ rest
  pub written : output'.written ≡ option_map (λ before. before ++ front) output.written

-- nothing was written, or a front of such lines
abbrev pub WroteFrontOfLookup : InputState → InputState → OutputState → OutputState → Type 0
WroteFrontOfLookup input input' output output' = WroteNone output output' ⊎ FrontOfLookup input input' output output'

module _ (status : ℕ) (input input' : InputState) (output output' : OutputState) where
  -- Why a run ends with a status from 2 to 6, as the input's contents show it.
  pub record HasLookupEnd : Type 0 where
    -- the input is no job
    pub refused : status ≡ 2 → IsNoJob input input'
    -- the projection does not bind
    pub unbound : status ≡ 3 → IsJobFound input input' IsUnbound
    -- it binds, and a place has no row, or one that can't be read
    pub unreadable : status ≡ 4 → IsJobFound input input' IsUnreadable
    -- it binds, and what may fail at a place did
    pub failed : status ≡ 5 → IsJobFound input input' IsFailed
    -- the input or the output failed, or more bytes came than are read
    pub io : status ≡ 6 → (Rose input.faults input'.faults ⊎ Rose output.faults output'.faults) ⊎ TookMore 67108864 input input'

  -- What a run has written.
  pub record LookupWrites : Type 0 where
    -- with a status from 1 to 5 the output is as it was
    pub untouched : 0 < status → status < 6 → output' ≡ output
    -- nothing, unless the output failed
    pub unwritten : status ≡ 6 → Rose output.faults output'.faults ⊎ WroteNone output output'
    -- nothing, unless the output found no memory
    pub short : status ≡ 7 → Rose output.short output'.short ⊎ WroteNone output output'
    -- never anything else than a front of the lines
    pub front : WroteFrontOfLookup input input' output output'

-- ---- what a run answers

-- nothing can fail at any place
abbrev pub NeverFails : Job → Type 0
NeverFails j = (p : Place) (f : FileSpec) → IsNamed j p f → CanFail j p f → ⊥

-- the projection binds, and no place is bad
pub record IsSound (j : Job) : Type 0 where
  pub bound : IsBound j
  pub good : (p : Place) → Contains (places_of j) p → IsBadPlace j p → ⊥

-- These bytes were to come. No read and no write failed, and no more bytes came than are read.
pub record WentWell (bytes : List ℕ) (input input' : InputState) (output output' : OutputState) : Type 0 where
  pub told : input.left ≡ Some bytes
  pub read : Rose input.faults input'.faults → ⊥
  pub short : TookMore 67108864 input input' → ⊥
  pub written : Rose output.faults output'.faults → ⊥

-- What a run answers of bytes where all went well: of each input one status, or 7.
pub record Answers (bytes : List ℕ) (status : ℕ) : Type 0 where
  -- no job
  pub none : ((j : Job) → ¬ IsJob bytes j) → (status ≡ 2) ⊎ (status ≡ 7)
  -- a projection that does not bind
  pub unbound : (j : Job) → IsJob bytes j → IsUnbound j → (status ≡ 3) ⊎ (status ≡ 7)
  -- a place that is not answered, where nothing can fail
  pub unanswered : (j : Job) → IsJob bytes j → IsBound j → NeverFails j → (All (IsAnswered j) (places_of j) → ⊥) → (status ≡ 4) ⊎ (status ≡ 7)
  -- the lines
  pub lines : (j : Job) → IsJob bytes j → IsSound j → NeverFails j → (status ≡ 0) ⊎ (status ≡ 7)

-- the status of a fault
abbrev pub status_of_fault : LookupFault → ℕ
status_of_fault (fault.Bind f) = 3
status_of_fault (fault.NoPlace place) = 4
status_of_fault (fault.DTypeMismatch file) = 4
status_of_fault (fault.Layout file l) = 4
status_of_fault (fault.Corrupt file id) = 4
status_of_fault (fault.Overflow file row) = 4
status_of_fault (fault.Opener file) = 5
status_of_fault (fault.Source file id) = 5
status_of_fault fault.NoMemory = 7

-- a status before anything is written, and what it says of a job
abbrev pub IsEnd : Job → ℕ → Type 0
IsEnd j s = ((s ≡ 3) × IsUnbound j) ⊎ ((s ≡ 4) × IsUnreadable j) ⊎ ((s ≡ 5) × IsFailed j) ⊎ (s ≡ 7)

-- a status before there is a job
abbrev pub HaltsLookup : ℕ → InputState → InputState → Type 0
HaltsLookup s old new = ((s ≡ 2) × IsNoJob old new) ⊎ ((s ≡ 6) × (Rose old.faults new.faults ⊎ TookMore 67108864 old new)) ⊎ (s ≡ 7)

-- a status before anything is written
abbrev pub EndsLookup : ℕ → InputState → InputState → Type 0
EndsLookup s old new = HaltsLookup s old new ⊎ ((j : Job) × IsGiven j old new × IsEnd j s)

-- these are the lines of the job that the input is
abbrev pub IsLookupReady : List ℕ → InputState → InputState → Type 0
IsLookupReady text old new = (j : Job) × IsGiven j old new × IsTextOf j text
