-- What a run of the program does.
use Rattle.std.specs.Prelude.{◌≡◌, ◌⊎◌, ℕ, ◌<◌, List, [], ◌∷◌, ◌++◌, Bool, true, false, None, Some, IfSome, IsSome, All, Contains, map, option_map, flat_map, codes}
use Rattle.std.specs.Str.{bytes_eq}
use Rattle.scan_values.specs.DataType.{Name, Fields, no_fields, field, bool_type}
use Rattle.scan_values.specs.declared.ptype.Nullability.TheVariants.{Nullable}
use Rattle.scan_values.specs.Val.{vals_of}
use Rattle.scan_segments.specs.Faults.{Rose}
use Rattle.scan_groups.specs.Rows.{IsFirstPast}
use Rattle.scan_groups.specs.declared.group.Group.{Group}
use Rattle.scan_multi.specs.Answer.{answer}
use Rattle.scan_multi.specs.Checks.{IsGood}
use Rattle.scan_run.specs.Io.{InputState, OutputState, WasRead}
use Rattle.scan_run.specs.Line.{fields_text}
use Rattle.scan_run.specs.ReadAll.{GaveAll, TookMore}
use Rattle.scan_manifest.specs.declared.manifest.FileSpec.{FileSpec}
use Rattle.scan_run.specs.Run.{CanFail, IsBadFile, IsUnreadable, IsFailing, WroteNone, given_by, told_by}
use Rattle.scan_run.specs.Stops.{status_of, stop_of}
use Rattle.scan_table.specs.Jobs.{IsJob, scanned_by}
use Rattle.scan_table.specs.Request.{first_table_fault}
use Rattle.scan_table.specs.Spec.{all_measured, names_of, request_of}
use Rattle.scan_table.specs.Tables.{IsTableOf, table_rows}
use Rattle.scan_table.specs.declared.fault.TableFault.{TableFault}
use Rattle.scan_table.specs.declared.fault.TableFault.TheVariants as fault
use Rattle.scan_table.specs.declared.reading.Job.{Job}

-- the words are `table` alone
abbrev pub is_table_words : List (List ℕ) → Bool
is_table_words [] = false
is_table_words (w ∷ []) = bytes_eq w (codes "table")
is_table_words (w ∷ v ∷ ws) = false

-- fields of these names, whose values are printed as what they are
abbrev pub named_fields : List Name → Fields
named_fields [] = no_fields
named_fields (n ∷ ns) = field n (bool_type Nullable) (named_fields ns)

-- the line of a group: the values of its key and of its measures under their names
abbrev pub group_line : List Name → Group → List ℕ
group_line names g = (codes "{" ++ (fields_text true (vals_of (g.key ++ g.measures)) (named_fields names) ++ codes "}")) ++ codes "\n"

abbrev pub group_lines : List Name → List Group → List ℕ
group_lines names groups = flat_map (group_line names) groups

-- groups that a job's files have, of a table that the checks let pass
pub record IsTotalled (j : Job) (groups : List Group) : Type 0 where
  pub passes : first_table_fault j.workers j.dtype j.spec ≡ None
  pub table : IsTableOf j.dtype j.spec (map told_by j.files) groups

-- the lines of such groups
pub record IsTextOf (j : Job) (text : List ℕ) : Type 0 where
  pub groups : List Group
  pub totalled : IsTotalled j groups
  pub lines : text ≡ group_lines (names_of j.spec) groups

-- the input was read to its end and asks for this
pub record IsGiven (j : Job) (old new : InputState) : Type 0 where
  pub bytes : List ℕ
  pub all : GaveAll bytes old new
  pub asks : IsJob bytes j

-- The input was read to its end and is a job. The lines of groups that its files have were written, and nothing else.
pub record IsTableDone (input input' : InputState) (output output' : OutputState) : Type 0 where
  pub read : WasRead input input'
  pub job : Job
  pub is : IfSome input.left (λ bytes. IsJob bytes job)
  pub text : List ℕ
  pub lines : IsTextOf job text
  pub written : output'.written ≡ option_map (λ before. before ++ text) output.written

-- the input was read to its end, and is no job
pub record IsNoJob (input input' : InputState) : Type 0 where
  pub read : WasRead input input'
  pub is : IfSome input.left (λ bytes. (j : Job) → ¬ IsJob bytes j)

-- the input was read to its end, and is a job with this fact
pub record IsJobFound (input input' : InputState) (P : Job → Type 0) : Type 0 where
  pub read : WasRead input input'
  pub job : Job
  pub is : IfSome input.left (λ bytes. IsJob bytes job)
  pub fact : P job

-- the table has a fault
abbrev pub IsFaulty : Job → Type 0
IsFaulty j = (e : TableFault) × (first_table_fault j.workers j.dtype j.spec ≡ Some e)

-- a sum of the table is past 64 bits
abbrev pub IsPastIn : Job → Type 0
IsPastIn j = (measure : ℕ) × IsFirstPast (all_measured j.spec) (table_rows j.dtype j.spec (map told_by j.files)) measure

-- Each file is skipped or of a good layout, no row of the answer is damaged, and a sum is past 64 bits.
pub record IsPastAlone (j : Job) : Type 0 where
  pub read : All (λ (f : FileSpec). IsGood j.dtype (request_of j.spec) (given_by f)) j.files
  pub clean : All (λ item. IsSome item.value) (answer j.dtype (request_of j.spec) (map told_by j.files))
  pub past : IsPastIn j

-- the table has no fault, and a file can't be read, or all can and some sum is past 64 bits
pub record IsUntotalled (j : Job) : Type 0 where
  pub late : first_table_fault j.workers j.dtype j.spec ≡ None
  pub why : IsUnreadable (scanned_by j) ⊎ IsPastAlone j

-- the table has no fault, and what may fail of a file did
pub record IsFailed (j : Job) : Type 0 where
  pub late : first_table_fault j.workers j.dtype j.spec ≡ None
  pub failing : IsFailing (scanned_by j)

-- what was written is a front of the lines of groups that the input, a job, asks for
pub record FrontOfTable (input input' : InputState) (output output' : OutputState) : Type 0 where
  pub read : WasRead input input'
  pub job : Job
  pub is : IfSome input.left (λ bytes. IsJob bytes job)
  pub text : List ℕ
  pub lines : IsTextOf job text
  pub front : List ℕ
  pub rest : List ℕ
  pub parts : text ≡ front ++ rest
  pub written : output'.written ≡ option_map (λ before. before ++ front) output.written

-- nothing was written, or a front of such lines
abbrev pub WroteFrontOfTable : InputState → InputState → OutputState → OutputState → Type 0
WroteFrontOfTable input input' output output' = WroteNone output output' ⊎ FrontOfTable input input' output output'

module _ (status : ℕ) (input input' : InputState) (output output' : OutputState) where
  -- Why a run ends with a status from 2 to 6, as the input's contents show it.
  pub record HasTableEnd : Type 0 where
    -- the input is no job
    pub refused : status ≡ 2 → IsNoJob input input'
    -- the table has a fault
    pub faulty : status ≡ 3 → IsJobFound input input' IsFaulty
    -- it has none, and a file can't be read, or all can and some sum is past 64 bits
    pub untotalled : status ≡ 4 → IsJobFound input input' IsUntotalled
    -- it has none, and what may fail of a file did
    pub failed : status ≡ 5 → IsJobFound input input' IsFailed
    -- the input or the output failed, or more bytes came than are read
    pub io : status ≡ 6 → (Rose input.faults input'.faults ⊎ Rose output.faults output'.faults) ⊎ TookMore 67108864 input input'

  -- What a run has written.
  pub record TableWrites : Type 0 where
    -- with a status from 1 to 5 the output is as it was
    pub untouched : 0 < status → status < 6 → output' ≡ output
    -- nothing, unless the output failed
    pub unwritten : status ≡ 6 → Rose output.faults output'.faults ⊎ WroteNone output output'
    -- nothing, unless the output found no memory
    pub short : status ≡ 7 → Rose output.short output'.short ⊎ WroteNone output output'
    -- never anything else than a front of the lines
    pub front : WroteFrontOfTable input input' output output'

-- ---- what a run answers

-- the table has no fault, and each of its files can be read and never fails
pub record IsSound (j : Job) : Type 0 where
  pub passes : first_table_fault j.workers j.dtype j.spec ≡ None
  pub reads : (f : FileSpec) (there : Contains j.files f) → IsBadFile (scanned_by j) there.0 f → ⊥
  pub works : (f : FileSpec) → Contains j.files f → CanFail (scanned_by j) f → ⊥

-- These bytes were to come. No read and no write failed, and no more bytes came than are read.
pub record WentWell (bytes : List ℕ) (input input' : InputState) (output output' : OutputState) : Type 0 where
  pub told : input.left ≡ Some bytes
  pub read : Rose input.faults input'.faults → ⊥
  pub short : TookMore 67108864 input input' → ⊥
  pub written : Rose output.faults output'.faults → ⊥

-- What a run answers of bytes where all went well: of each input one status, or 7.
pub record Answers (bytes : List ℕ) (status : ℕ) : Type 0 where
  -- no job
  pub none : ((j : Job) → ¬ IsJob bytes j) → (status ≡ 2) ⊎ (status ≡ 7)
  -- a table with a fault
  pub faulty : (j : Job) → IsJob bytes j → IsFaulty j → (status ≡ 3) ⊎ (status ≡ 7)
  -- a sum past 64 bits
  pub past : (j : Job) → IsJob bytes j → IsSound j → IsPastIn j → (status ≡ 4) ⊎ (status ≡ 7)
  -- the lines
  pub lines : (j : Job) → IsJob bytes j → IsSound j → (IsPastIn j → ⊥) → (status ≡ 0) ⊎ (status ≡ 7)

-- the status of a fault
abbrev pub status_of_fault : TableFault → ℕ
status_of_fault (fault.Scan e) = status_of (stop_of e)
status_of_fault (fault.KeyType key) = 3
status_of_fault (fault.MeasureType measure) = 3
status_of_fault (fault.SumRange measure) = 4
status_of_fault fault.NoMemory = 7

-- a status before anything is written, and what it says of a job
abbrev pub IsEnd : Job → ℕ → Type 0
IsEnd j s = ((s ≡ 3) × IsFaulty j) ⊎ ((s ≡ 4) × IsUntotalled j) ⊎ ((s ≡ 5) × IsFailed j) ⊎ (s ≡ 7)

-- a status before there is a job
abbrev pub HaltsTable : ℕ → InputState → InputState → Type 0
HaltsTable s old new = ((s ≡ 2) × IsNoJob old new) ⊎ ((s ≡ 6) × (Rose old.faults new.faults ⊎ TookMore 67108864 old new)) ⊎ (s ≡ 7)

-- a status before anything is written
abbrev pub EndsTable : ℕ → InputState → InputState → Type 0
EndsTable s old new = HaltsTable s old new ⊎ ((j : Job) × IsGiven j old new × IsEnd j s)

-- these are the lines of the job that the input is
abbrev pub IsTableReady : List ℕ → InputState → InputState → Type 0
IsTableReady text old new = (j : Job) × IsGiven j old new × IsTextOf j text
