-- What a look-up may ask of a file, and which openers it polls.
use Rattle.std.specs.Prelude.{◌≡◌, ℕ, ◌+◌, ◌==◌, List, true, All, Contains, get_or, filter, map}
use Rattle.scan_expr.specs.Bound.{Bound}
use Rattle.scan_expr.specs.Needs.{needed}
use Rattle.scan_layout.specs.Layout.{Layout}
use Rattle.scan_layout.specs.Touched.{touched}
use Rattle.scan_opener.specs.Opener.{OpenerState, layout_of}
use Rattle.scan_segments.specs.Source.{SourceState}
use Rattle.scan_spelling.specs.Places.{Place as Segment}
use Rattle.scan_splits.specs.Wanted.{no_repeats}
use Rattle.scan_drive.specs.Traffic.{asked_since}
use Rattle.scan_drive.specs.declared.files.ScanFile.{ScanFile}
use Rattle.scan_multi.specs.Answer.{ToldFile}
use Rattle.scan_multi.specs.Lawful.{told_file}
use Rattle.scan_multi.specs.Named.{distinct, named}
use Rattle.scan_seek.specs.KeptData.{KeptData}
use Rattle.scan_lookup.specs.Replies.{row_request}
use Rattle.scan_lookup.specs.Session.{is_open_in}
use Rattle.scan_places.specs.Walks.{kept_at, files_of}
use Rattle.scan_places.specs.declared.place.Place.{Place}

-- the rows of the places that name a file
abbrev pub named_rows : ℕ → List Place → List ℕ
named_rows file places = map (λ (p : Place). p.row) (filter (λ (p : Place). p.file == file) places)

-- the rows that places name of a file, each once, in the order of their first places
abbrev pub rows_at : ℕ → List Place → List ℕ
rows_at file places = distinct (named_rows file places)

-- one of these rows of a file touches the segment of this id, at a leaf that the expression needs
pub record IsTouched (e : Bound) (f : ToldFile) (rows : List ℕ) (id : ℕ) : Type 0 where
  pub layout : Layout
  pub given : f.given ≡ layout_of layout
  pub row : ℕ
  pub asked : Contains rows row
  pub segment : Segment
  pub there : Contains (touched layout f.store row (row + 1)) segment
  pub needs : needed e.scope e.expr segment.path ≡ true
  pub is : segment.id ≡ id

-- so it is, and it is named by a request of all rows
pub record MayBeAsked (e : Bound) (f : ToldFile) (rows : List ℕ) (id : ℕ) : Type 0 where
  pub touched : IsTouched e f rows id
  pub among : Contains (named e.scope (row_request e.expr) f.given f.store) id

module _ {O S : Type 0} (opener : O → OpenerState) (source : S → SourceState) (e : Bound) (places : List Place) (old new : List (ScanFile O S)) where
  -- of each file only such segments were asked
  abbrev pub EachAsksTouched : Type 0
  EachAsksTouched = (k : ℕ) (f : ScanFile O S) → All (MayBeAsked e (told_file opener source (get_or old k f)) (rows_at k places))
      (asked_since (source (get_or old k f).source) (source (get_or new k f).source))

  -- and none twice
  abbrev pub EachAsksOnce : Type 0
  EachAsksOnce = (k : ℕ) (f : ScanFile O S) → no_repeats (asked_since (source (get_or old k f).source) (source (get_or new k f).source)) ≡ true

  -- Only files that a place names are touched, openers that have answered are not polled, and what is kept of these files stays.
  pub record OpensNamed (kept kept' : List KeptData) : Type 0 where
    pub unnamed : (k : ℕ) → (Contains (files_of places) k → ⊥) → (f : ScanFile O S) → get_or new k f ≡ get_or old k f
    pub opened : (k : ℕ) → is_open_in kept k ≡ true → (f : ScanFile O S) → (get_or new k f).opener ≡ (get_or old k f).opener
    pub stay : (k : ℕ) → is_open_in kept k ≡ true → kept_at kept' k ≡ kept_at kept k
    pub closed : (k : ℕ) → (Contains (files_of places) k → ⊥) → kept_at kept' k ≡ kept_at kept k
