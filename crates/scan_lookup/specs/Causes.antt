-- Why a look-up is refused.
use Rattle.std.specs.Prelude.{◌≡◌, ◌⊎◌, ℕ, ◌<◌, ◌≤◌, ◌+◌, List, true, Some, Contains, take, length, get_or, All}
use Rattle.std.specs.List.{slice_get}
use Rattle.scan_expr.specs.Bound.{Bound}
use Rattle.scan_expr.specs.Needs.{needed}
use Rattle.scan_expr.specs.Overflow.{overflows}
use Rattle.scan_layout.specs.Layout.{Layout}
use Rattle.scan_layout.specs.RowValue.{row_value}
use Rattle.scan_layout.specs.Touched.{touched}
use Rattle.scan_opener.specs.Opener.{OpenerState, OpenerFailed, layout_of}
use Rattle.scan_readers.specs.Flaws.{has_flaw}
use Rattle.scan_segments.specs.Cache.{CacheState}
use Rattle.scan_segments.specs.Source.{SourceState}
use Rattle.scan_segments.specs.declared.segment.SegmentKey.{SegmentKey}
use Rattle.scan_spelling.specs.Places.{Place as Segment}
use Rattle.scan_drive.specs.Drivings.{SourceFailed}
use Rattle.scan_drive.specs.Traffic.{WasAsked}
use Rattle.scan_drive.specs.declared.files.ScanFile.{ScanFile}
use Rattle.scan_multi.specs.Answer.{ToldFile}
use Rattle.scan_multi.specs.Causes.{MayHaveCome}
use Rattle.scan_multi.specs.Checks.{IsOfOtherType, IsIllFormed}
use Rattle.scan_multi.specs.Lawful.{IsLawful, Gives, told_file}
use Rattle.scan_multi.specs.Moves.{NoneAsked}
use Rattle.scan_multi.specs.Named.{named}
use Rattle.scan_places.specs.Walks.{GivesRow, LacksRow, files_of}
use Rattle.scan_lookup.specs.Asked.{rows_at}
use Rattle.scan_lookup.specs.Replies.{row_request}
use Rattle.scan_lookup.specs.declared.fault.LookupFault.{LookupFault}
use Rattle.scan_lookup.specs.declared.fault.LookupFault.TheVariants as fault
use Rattle.scan_places.specs.declared.place.Place.{Place}

-- the expression overflows at a row
abbrev pub OverflowsAt : Bound → ℕ → ToldFile → Type 0
OverflowsAt e row f = (l : Layout) × (f.given ≡ layout_of l) × (overflows e.scope e.expr (row_value l f.store row) row ≡ true)

-- a named segment that one of these rows touches at a needed leaf is missing, does not decode, or holds a bad offset
pub record IsFlawedAt (e : Bound) (f : ToldFile) (rows : List ℕ) (id : ℕ) : Type 0 where
  pub layout : Layout
  pub given : f.given ≡ layout_of layout
  pub row : ℕ
  pub asked : Contains rows row
  pub segment : Segment
  pub there : Contains (touched layout f.store row (row + 1)) segment
  pub needs : needed e.scope e.expr segment.path ≡ true
  pub is : segment.id ≡ id
  pub flawed : has_flaw layout f.store segment ≡ true
  pub among : Contains (named e.scope (row_request e.expr) f.given f.store) id

module _ {O S : Type 0} (opener : O → OpenerState) (source : S → SourceState) (e : Bound) (places : List Place)
    (cache : CacheState SegmentKey) (old new : List (ScanFile O S)) where
  -- the file of a place is listed, and has its row, as far as its opener tells
  abbrev pub IsTold : Place → Type 0
  IsTold p = (p.file < length old) × ((f : ScanFile O S) → Gives opener source (GivesRow e.scope p.row) (get_or old p.file f))

  -- so are the places before one
  abbrev pub Before : ℕ → Type 0
  Before place = All IsTold (take place places)

  -- a place names this file, all before it are there, and this holds of the file
  pub record AtPlace (file : ℕ) (P : ScanFile O S → ScanFile O S → Type 0) : Type 0 where
    pub number : ℕ
    pub place : Place
    pub there : slice_get places number ≡ Some place
    pub names : place.file ≡ file
    pub listed : file < length old
    pub before : Before number
    pub fact : (f : ScanFile O S) → P (get_or old file f) (get_or new file f)

  -- no row is at a place: the list has no such file, or the file was skipped or has fewer rows
  abbrev pub IsNowhere : Place → Type 0
  IsNowhere p = (length old ≤ p.file) ⊎ ((p.file < length old) × ((f : ScanFile O S) → Gives opener source (LacksRow e.scope p.row) (get_or old p.file f)))

  -- all places are there, and this holds of a file that one of them names
  pub record OfRead (file : ℕ) (P : ScanFile O S → ScanFile O S → Type 0) : Type 0 where
    pub there : Before (length places)
    pub among : Contains (files_of places) file
    pub fact : (f : ScanFile O S) → P (get_or old file f) (get_or new file f)

  -- the cause of each fault
  abbrev pub HasLookupCause : LookupFault → Type 0
  HasLookupCause fault.NoMemory = Unit {0}
  HasLookupCause (fault.Bind f) = ⊥
  HasLookupCause (fault.NoPlace place) = (p : Place) × (slice_get places place ≡ Some p) × Before place × IsNowhere p
  HasLookupCause (fault.Opener file) = AtPlace file (λ f g. OpenerFailed (opener f.opener) (opener g.opener))
  HasLookupCause (fault.DTypeMismatch file) = AtPlace file (λ f g. NoneAsked opener source f g × Gives opener source (IsOfOtherType e.scope) f)
  HasLookupCause (fault.Layout file l) = AtPlace file (λ f g. NoneAsked opener source f g × Gives opener source (IsIllFormed e.scope l) f)
  HasLookupCause (fault.Source file id) = OfRead file (λ f g. SourceFailed (source f.source) (source g.source) × WasAsked id (source f.source) (source g.source))
  HasLookupCause (fault.Corrupt file id) = OfRead file (λ f g. (IsLawful opener source old cache → IsFlawedAt e (told_file opener source f) (rows_at file places) id)
      × MayHaveCome opener source cache old new id f)
  HasLookupCause (fault.Overflow file row) = Contains places (record { file = file; row = row })
      × OfRead file (λ f g. IsLawful opener source old cache → OverflowsAt e row (told_file opener source f))
