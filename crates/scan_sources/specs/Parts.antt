-- The parts of a scan of one reader, one after the other.
use Rattle.std.specs.Prelude.{◌≡◌, ◌≤◌, ◌<◌, ◌⊎◌, ℕ, Bool, true, false, List, [], ◌∷◌, length, map, Option, Some, None, is_some, Ok}
use Rattle.std.specs.List.{flat_map}
use Rattle.std.specs.declared.ops.Range.{Range}
use Rattle.scan_values.specs.Marked.{Marked}
use Rattle.scan_segments.specs.Source.{Store}
use Rattle.scan_readers.specs.Readers.{ReaderState}
use Rattle.scan_core.specs.BuilderData.{IsBuilder}
use Rattle.scan_core.specs.Given.{Rises, asked_values}
use Rattle.scan_core.specs.ScanData.{IsScan, ScanData}
use Rattle.scan_core.specs.SplitRanges.{Follow, rows}
use Rattle.scan_core.specs.Streaming.{first_of, limit_after, streamed, values_in}
use Rattle.scan_sources.specs.Requests.{IsScanOfRequest, builder_of, shared_limit}
use Rattle.scan_sources.specs.Scans.{ReaderScan, GivesPart, IsReaderScan, StartsScan, after_split, is_over, is_used, lessened}
use Rattle.scan_sources.specs.Splits.{ReaderSplit}
use Rattle.scan_sources.specs.declared.request.BoundScanRequest.{BoundScanRequest}

-- parts that a scan gives one after the other, up to a later state of it
abbrev pub GivesParts : {M : Type 0} → ReaderScan M → List (ReaderSplit M) → ReaderScan M → Type 0
GivesParts old [] new = new ≡ old
GivesParts old (p ∷ ps) new = GivesPart old (after_split old) (Ok (Some p)) × GivesParts (after_split old) ps new

-- ---- what they give
-- a part by itself: what its splits give, with a filter the first of it, as many rows as the part's own limit
abbrev pub part_gives : {M : Type 0} → Store → ReaderSplit M → List Marked
part_gives store p = first_of (limit_after p.scan) (values_in (streamed p.scan (Some p.range)) store)

-- several, one after the other
abbrev pub parts_give : {M : Type 0} → Store → List (ReaderSplit M) → List Marked
parts_give store ps = flat_map (part_gives store) ps

-- the first of what is given, as many as a limit, are the first of what is asked for; without a filter no more is given
abbrev pub GivesFirstOf : Bool → Option ℕ → List Marked → List Marked → Type 0
GivesFirstOf true limit asked given = first_of limit given ≡ first_of limit asked
GivesFirstOf false limit asked given = given ≡ first_of limit asked

-- as many are given as a limit, or more
abbrev pub IsEnough : Option ℕ → List Marked → Type 0
IsEnough None given = ⊥
IsEnough (Some n) given = n ≤ length given

-- What parts of a request's scan give, one after the other, of the rows that it asks for.
pub record GiveTheFirst {M : Type 0} (state : ReaderState) (q : BoundScanRequest) (store : Store) (old new : ReaderScan M) (ps : List (ReaderSplit M)) : Type 0 where
  -- the first of those that lie in the parts
  pub so_far : GivesFirstOf (is_some q.filter) q.limit (asked_values state (builder_of q (old.scan).step) (Some (rows old.next new.next)) store) (parts_give store ps)
  -- without a filter what they give is taken off the limit: once it is used up no part is left
  pub left : new.left ≡ lessened (is_some q.filter) q.limit (length (parts_give store ps))
  -- once no part is left, or they gave as many rows as the limit, the first of all
  pub all : (is_over new ≡ true) ⊎ IsEnough q.limit (parts_give store ps)
      → GivesFirstOf (is_some q.filter) q.limit (asked_values state (builder_of q (old.scan).step) None store) (parts_give store ps)

-- ---- the laws
-- the parts follow each other from the first row that was in no part; once the scan is over they end with its rows, or nothing is left of its limit
pub record PartsCover {M : Type 0} (old new : ReaderScan M) (ps : List (ReaderSplit M)) : Type 0 where
  pub follow : Follow old.next new.next (map (λ (p : ReaderSplit M). p.range) ps)
  pub covered : old.next ≤ old.end → is_over new ≡ true → is_used new.left ≡ false → new.next ≡ old.end

abbrev pub PartsCoverTheScan : Type 0 → Type 0
PartsCoverTheScan M = (old new : ReaderScan M) (ps : List (ReaderSplit M)) → 0 < old.size → GivesParts old ps new → PartsCover old new ps

-- without a limit, ranges that follow each other together give the values of the request's projection at the selected rows
-- of the request's range from the first of them to the last at which the filter is true, in the order of the rows
abbrev pub PartsGiveTheScan : Type 0 → Type 0
PartsGiveTheScan M =
    (state : ReaderState) (q : BoundScanRequest) (s : ScanData M) (first last : ℕ) (rs : List (Range ℕ))
    → IsBuilder state q.projection q.filter None → Rises q.selection → IsScanOfRequest state q s → IsScan s → Follow first last rs → last ≤ state.rows
    → (store : Store) → flat_map (λ (r : Range ℕ). values_in (streamed (record s { limit = None }) (Some r)) store) rs
    ≡ asked_values state (builder_of q s.step) (Some (rows first last)) store

-- the parts of a request's scan that share no limit together give the first of the rows that it asks for, as many as its limit
abbrev pub PartsGiveTheFirstRows : Type 0 → Type 0
PartsGiveTheFirstRows M =
    (state : ReaderState) (size : ℕ) (q : BoundScanRequest) (old new : ReaderScan M) (ps : List (ReaderSplit M))
    → IsBuilder state q.projection q.filter None → Rises q.selection → shared_limit q ≡ None → StartsScan state size q old → IsReaderScan old → GivesParts old ps new
    → (store : Store) → GiveTheFirst state q store old new ps
