-- What a catalogue concludes that asks for rows in parts.
use Rattle.std.specs.Prelude.{◌≡◌, ◌≤◌, ◌++◌, ℕ, Bool, true, false, List, [], ◌∷◌, map, is_some, Option, None, Some, Ok, IsPermutation}
use Rattle.std.specs.List.{flat_map}
use Rattle.std.specs.declared.ops.Range.{Range}
use Rattle.vortex_scan.specs.Values.Marked.{Marked}
use Rattle.vortex_scan.specs.Segments.Source.{Store}
use Rattle.vortex_scan.specs.Readers.Readers.{ReaderState}
use Rattle.vortex_scan.specs.Core.BuilderData.{range_or_all}
use Rattle.vortex_scan.specs.Core.Given.{asked_values}
use Rattle.vortex_scan.specs.Core.SplitRanges.{Follow}
use Rattle.vortex_scan.specs.Core.Streaming.{first_of, limit_after, streamed, values_in}
use Rattle.vortex_scan.specs.Collect.Reads.{values_given}
use Rattle.vortex_scan.specs.Collect.Rows.{GivesFirst}
use Rattle.vortex_scan.specs.Streams.declared.fault.StreamFault.TheVariants as fault
use Rattle.vortex_scan.specs.Sources.Empties.{empty_data}
use Rattle.vortex_scan.specs.Sources.Parts.{GivesFirstOf, GivesParts}
use Rattle.vortex_scan.specs.Sources.Plain.{Plain}
use Rattle.vortex_scan.specs.Sources.Requests.{asked_count, builder_of, request_dtype}
use Rattle.vortex_scan.specs.Sources.Scans.{GivesPart, IsReaderScan, ReaderScan, is_over}
use Rattle.vortex_scan.specs.Sources.Splits.{ReaderSplit}
use Rattle.vortex_scan.specs.Sources.declared.request.BoundScanRequest.{BoundScanRequest}
use Rattle.uses.specs.declared.in_parts.InParts.{InParts}
use Rattle.uses.specs.declared.in_parts.InParts.TheVariants.{Counted, Read}
use Rattle.uses.specs.declared.in_parts.RowsOfPart.{RowsOfPart}
use Rattle.uses.specs.declared.in_parts.Turn.{Turn}
use Rattle.uses.specs.declared.in_parts.Turn.TheVariants.{More, Last, Stop}

-- the rows of parts, and the values that they give, one part after the other
abbrev pub part_rows : List RowsOfPart → List (Range ℕ)
part_rows parts = map (λ (p : RowsOfPart). p.rows) parts

abbrev pub part_values : List RowsOfPart → List Marked
part_values parts = flat_map (λ (p : RowsOfPart). values_given p.arrays.items) parts

-- the first of what is asked for, as many as a limit: in order, or, without an order, exactly these in some order
abbrev pub GivesAsked : Bool → Bool → Option ℕ → List Marked → List Marked → Type 0
GivesAsked true filtered limit asked given = GivesFirstOf filtered limit asked given
GivesAsked false filtered limit asked given = IsPermutation (first_of limit asked) given

-- Parts of what a request asks of a reader's rows.
pub record CoverAndGive (state : ReaderState) (q : BoundScanRequest) (holds : Option Store) (parts : List RowsOfPart) : Type 0 where
  -- they follow each other from the first row of its range on
  pub last : ℕ
  pub follow : Follow (range_or_all q.row_range state.rows).start last (part_rows parts)
  -- within the range, and without a limit to its end
  pub within : last ≤ (range_or_all q.row_range state.rows).end
  pub whole : q.limit ≡ None → last ≡ (range_or_all q.row_range state.rows).end
  -- over a source that tells what it holds they together give the first of what it asks for
  pub values : (store : Store) → holds ≡ Some store → GivesAsked q.ordered (is_some q.filter) q.limit (asked_values state (builder_of q (tt {0})) None store) (part_values parts)

-- so many rows of which nothing is read, or parts
abbrev pub IsReadInParts : ReaderState → BoundScanRequest → Option Store → InParts → Type 0
IsReadInParts state q holds (Counted e) = e ≡ empty_data (request_dtype q) (asked_count q state.rows) 0
IsReadInParts state q holds (Read parts) = CoverAndGive state q holds parts.items

-- ---- one part after the other
-- what is given of a part that shares no limit: what its splits give, with a filter as many of it as its limit, in order or in some order
abbrev pub GivesOf : Option Store → ReaderSplit Plain → List Marked → Type 0
GivesOf holds p given = (store : Store) → holds ≡ Some store → GivesFirst (p.scan).ordered (limit_after p.scan) (values_in (streamed p.scan (Some p.range)) store) given

-- what is read of a part
pub record IsRead (holds : Option Store) (part : ReaderSplit Plain) (read : RowsOfPart) : Type 0 where
  pub rows : read.rows ≡ part.range
  pub values : GivesOf holds part (values_given read.arrays.items)

-- of each of several
abbrev pub AreRead : Option Store → List (ReaderSplit Plain) → List RowsOfPart → Type 0
AreRead holds [] [] = Unit {0}
AreRead holds [] (r ∷ rs) = ⊥
AreRead holds (p ∷ ps) [] = ⊥
AreRead holds (p ∷ ps) (r ∷ rs) = IsRead holds p r × AreRead holds ps rs

-- what a part gives is kept, or memory lacks
abbrev pub PushesPart : RowsOfPart → List RowsOfPart → List RowsOfPart → Turn → Type 0
PushesPart rows before after More = after ≡ before ++ rows ∷ []
PushesPart rows before after Last = ⊥
PushesPart rows before after (Stop f) = f ≡ fault.NoMemory

-- what is read of a part is kept
pub record KeepsOne (holds : Option Store) (part : ReaderSplit Plain) (before after : List RowsOfPart) : Type 0 where
  pub read : RowsOfPart
  pub kept : after ≡ before ++ read ∷ []
  pub is : IsRead holds part read

abbrev pub KeepsPart : Option Store → ReaderSplit Plain → List RowsOfPart → List RowsOfPart → Turn → Type 0
KeepsPart holds part before after More = KeepsOne holds part before after
KeepsPart holds part before after Last = ⊥
KeepsPart holds part before after (Stop f) = Unit {0}

-- the next part is read and kept
pub record ReadsOne (holds : Option Store) (old new : ReaderScan Plain) (before after : List RowsOfPart) : Type 0 where
  pub part : ReaderSplit Plain
  pub gives : GivesPart old new (Ok (Some part))
  pub lies : IsReaderScan old
  pub keeps : KeepsOne holds part before after

-- one is, or none is left, or it can't be read
abbrev pub ReadsNext : Option Store → ReaderScan Plain → ReaderScan Plain → List RowsOfPart → List RowsOfPart → Turn → Type 0
ReadsNext holds old new before after More = ReadsOne holds old new before after
ReadsNext holds old new before after Last = (is_over old ≡ true) × (new ≡ old) × (after ≡ before) × IsReaderScan old
ReadsNext holds old new before after (Stop f) = Unit {0}

-- parts that were read so far
pub record HasParts (holds : Option Store) (old new : ReaderScan Plain) (parts : List RowsOfPart) : Type 0 where
  pub splits : List (ReaderSplit Plain)
  pub gives : GivesParts old splits new
  pub read : AreRead holds splits parts

-- all parts
pub record ReadsParts (holds : Option Store) (old new : ReaderScan Plain) (parts : List RowsOfPart) : Type 0 where
  pub lies : IsReaderScan old
  pub over : is_over new ≡ true
  pub has : HasParts holds old new parts
