-- Files whose sources stand under another dtype, and back.
use Rattle.std.specs.Prelude.{◌≡◌, ◌≢◌, ◌⊎◌, ℕ, ◌+◌, List, [], ◌∷◌, ◌++◌, All, length, Option, None, Some, IfSome}
use Rattle.std.specs.Fmt.{decimal}
use Rattle.std.specs.declared.ops.Range.{Range}
use Rattle.scan_values.specs.DataType.{DataType}
use Rattle.scan_segments.specs.Source.{SourceState}
use Rattle.scan_layout.specs.Form.{HasForm}
use Rattle.scan_opener.specs.Opener.{Given, skip, layout_of, OpenerState}
use Rattle.scan_opener.specs.OpenerMemory.{given_of}
use Rattle.scan_opener.specs.declared.opener.MemoryOpener.{MemoryOpener}
use Rattle.scan_drive.specs.declared.files.ScanFile.{ScanFile}
use Rattle.scan_expr.specs.declared.request.ScanRequest.{ScanRequest}
use Rattle.scan_multi.specs.Checks.{rows_given}
use Rattle.scan_multi.specs.Lawful.{IsIdle}
use Rattle.scan_multi.specs.Request.{first_request_fault}
use Rattle.scan_widen.specs.Parts.{IsReadable}
use Rattle.scan_widen.specs.declared.under.UnionLayout.{UnionLayout}
use Rattle.scan_widened.specs.Faults.{given_fault, PolledToEnd, IsFileFault}
use Rattle.scan_widened.specs.Sources.{UnionState, fresh}
use Rattle.scan_widened.specs.declared.fault.FileFault.{FileFault}
use Rattle.scan_union.specs.Under.{behind_of, given_under, of_file}
use Rattle.scan_union.specs.declared.fault.UnionFault.{UnionFault}
use Rattle.scan_union.specs.declared.fault.UnionFault.TheVariants as fault
use Rattle.scan_union.specs.declared.seat.Rest.{Rest}
use Rattle.scan_union.specs.declared.seat.Seat.{Seat}

-- an opener that gives this, and was not polled yet; it neither fails nor puts off an answer
pub record IsGivingOpener (g : Given) (o : MemoryOpener) : Type 0 where
  pub gives : given_of o.gives ≡ g
  pub script : o.script ≡ record { failing = []; pending = []; next = Some 0 }
  pub faults : o.faults ≡ 0
  pub polls : o.polls ≡ 0

-- what is given is well-formed
abbrev pub IsFormed : DataType → Given → Type 0
IsFormed d skip = Unit {0}
IsFormed d (layout_of l) = HasForm l d

-- the seat of the file at a place, whose opener gave this
pub record IsSeat (d : DataType) (place : ℕ) (g : Given) (s : Seat) : Type 0 where
  pub opener : IsGivingOpener (given_under d g) s.opener
  pub segments : (s.segments).items ≡ behind_of d g
  pub readable : All IsReadable (s.segments).items
  pub formed : IsFormed d (given_under d g)
  pub name : s.name ≡ decimal place

-- the seat of a file at a place, by its layout under the dtype
abbrev pub IsSeatOf : ℕ → Option UnionLayout → Seat → Type 0
IsSeatOf place None s = IsGivingOpener skip s.opener × ((s.segments).items ≡ []) × (s.name ≡ decimal place)
IsSeatOf place (Some u) s = IsGivingOpener (layout_of (u.root).value) s.opener × (s.segments ≡ u.segments) × (s.name ≡ decimal place)

-- this holds of each pair of two lists
abbrev pub Pairs : {A B : Type 0} → (A → B → Type 0) → List A → List B → Type 0
Pairs P [] [] = Unit {0}
Pairs P [] (y ∷ ys) = ⊥
Pairs P (x ∷ xs) [] = ⊥
Pairs P (x ∷ xs) (y ∷ ys) = P x y × Pairs P xs ys

-- how many rows were given
abbrev pub rows_all : List Given → ℕ
rows_all [] = 0
rows_all (g ∷ gs) = rows_given g + rows_all gs

module _ {O S : Type 0} (opener : O → OpenerState) (source : S → SourceState) where
  -- the opener of a file was polled to its end, and the rest is as it was
  pub record IsPolledFile (f t : ScanFile O S) : Type 0 where
    pub polls : PolledToEnd (opener f.opener) (opener t.opener)
    pub kept : t.source ≡ f.source
    pub named : t.source_id ≡ f.source_id

  -- what its opener gave, which is what it tells
  pub record IsOpenedFile (f t : ScanFile O S) (g : Given) : Type 0 where
    pub polled : IsPolledFile f t
    pub told : IfSome (opener f.opener).gives (λ h. h ≡ g)

  -- The first files were polled to their ends, in their order, and the others are as they were.
  pub record OpensFront (old new : List (ScanFile O S)) : Type 0 where
    pub front : List (ScanFile O S)
    pub opened : List (ScanFile O S)
    pub rest : List (ScanFile O S)
    pub before : old ≡ front ++ rest
    pub after : new ≡ opened ++ rest
    pub polled : Pairs IsPolledFile front opened

  module _ (d : DataType) (range : Option (Range ℕ)) where
    -- each file was opened and has no fault, from a place on, where so many rows are before them; these are their seats
    abbrev pub AreSeated : ℕ → ℕ → List (ScanFile O S) → List (ScanFile O S) → List Given → List Seat → Type 0
    AreSeated place before [] [] [] [] = Unit {0}
    AreSeated place before (f ∷ fs) (t ∷ ts) (g ∷ gs) (s ∷ ss) =
        IsOpenedFile f t g × (given_fault d range before g ≡ None) × IsSeat d place g s × AreSeated (place + 1) (before + rows_given g) fs ts gs ss
    AreSeated place before fs ts gs ss = ⊥

    -- all files were opened and have no fault; these are their seats
    abbrev pub Seated : List (ScanFile O S) → List (ScanFile O S) → List Seat → Type 0
    Seated old new seats = (gs : List Given) × AreSeated 0 0 old new gs seats

    -- the opening stopped at a file, by this fault: those before it have none
    pub record StopsAt (old new : List (ScanFile O S)) (e : UnionFault) : Type 0 where
      pub front : List (ScanFile O S)
      pub opened : List (ScanFile O S)
      pub given : List Given
      pub seats : List Seat
      pub file : ScanFile O S
      pub polled : ScanFile O S
      pub rest : List (ScanFile O S)
      pub before : old ≡ front ++ file ∷ rest
      pub after : new ≡ opened ++ polled ∷ rest
      pub seated : AreSeated 0 0 front opened given seats
      pub why : FileFault
      pub is : e ≡ of_file (length front) why
      pub fact : IsFileFault d range (rows_all given) (opener file.opener) (opener polled.opener) why

    -- why files were not all opened
    abbrev pub IsOpenFault : List (ScanFile O S) → List (ScanFile O S) → UnionFault → Type 0
    IsOpenFault old new e = (e ≡ fault.NoMemory) ⊎ StopsAt old new e

-- a scan that has come so far: its request has no fault, something is wanted, and no request of a source was live
pub record IsOpen {O S : Type 0} (opener : O → OpenerState) (source : S → SourceState) (workers : ℕ) (d : DataType) (request : ScanRequest) (old : List (ScanFile O S)) : Type 0 where
  pub types : first_request_fault workers d request ≡ None
  pub room : request.limit ≢ Some 0
  pub idle : All (IsIdle opener source) old

-- ---- files under the other dtype
module _ {O S : Type 0} (source : S → SourceState) where
  abbrev pub make_file : ScanFile O S → Seat → ScanFile MemoryOpener (UnionState S)
  make_file t s = record { opener = s.opener; source = fresh source t.source (s.segments).items; source_id = s.name }

  abbrev pub make_all : List (ScanFile O S) → List Seat → List (ScanFile MemoryOpener (UnionState S))
  make_all [] ss = []
  make_all (t ∷ ts) [] = []
  make_all (t ∷ ts) (s ∷ ss) = make_file t s ∷ make_all ts ss

module _ {O S : Type 0} where
  -- what is left of a file
  abbrev pub rest_of : ScanFile O S → Rest O
  rest_of t = record { opener = t.opener; source_id = t.source_id }

  -- ---- and back
  abbrev pub back_file : Rest O → ScanFile MemoryOpener (UnionState S) → ScanFile O S
  back_file r m = record { opener = r.opener; source = (m.source).inner; source_id = r.source_id }

  abbrev pub back_all : List (Rest O) → List (ScanFile MemoryOpener (UnionState S)) → List (ScanFile O S)
  back_all [] ms = []
  back_all (r ∷ rs) [] = []
  back_all (r ∷ rs) (m ∷ ms) = back_file r m ∷ back_all rs ms
