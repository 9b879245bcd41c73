-- Which segments rows of a plan want, and what of these has arrived.
use Rattle.std.specs.Prelude.{◌≡◌, ℕ, ◌+◌, ◌-◌, ◌==◌, take, drop, nat_le, nat_lt, Bool, true, false, ◌&&◌, ◌||◌, ◌++◌, List, [], ◌∷◌, map, if◌then◌else◌, Option, Some, None, is_none, is_some}
use Rattle.std.specs.List.{list_any, list_all}
use Rattle.scan_segments.specs.Source.{Store}
use Rattle.scan_spelling.specs.Spelling.{decode}
use Rattle.scan_spelling.specs.Places.{Place, places_of}
use Rattle.scan_plans.specs.Came.{Came, arrived}
use Rattle.scan_plans.specs.PlanTree.{PlanTree, leaf, rows, evaluate, over, constant, lists, lengths, valid, numbers, by_lengths, PlanTrees, no_plans, plan}
use Rattle.scan_plans.specs.OffsetsData.{OffsetsData, offset_places, offset_at}
use Rattle.scan_plans.specs.Lists.{offset_rows, is_whole, element_rows, is_bad_offset, before_next}

-- one of the rows is among the n rows from the row base on
abbrev pub holds_any : ℕ → ℕ → List ℕ → Bool
holds_any base n is = list_any (λ i. nat_le base i && nat_lt i (base + n)) is

-- the segments of a leaf that hold one of these rows, where the first begins at the row base
abbrev pub leaf_wanted : ℕ → List Place → List ℕ → List Place
leaf_wanted base [] is = []
leaf_wanted base (p ∷ places) is = (if holds_any base p.rows is then p ∷ [] else []) ++ leaf_wanted (base + p.rows) places is

-- something has arrived of each
abbrev pub are_here : List Place → Came → Bool
are_here places here = list_all (λ (p : Place). is_some (here p.id)) places

-- the segments that hold the offsets of lists at these rows
abbrev pub offsets_wanted : OffsetsData → List ℕ → List Place
offsets_wanted o is = leaf_wanted 0 (offset_places o) (offset_rows is)

-- it is known which elements lists at these rows want: of all lists at once, else where no offset lacks
abbrev pub knows_elements : OffsetsData → Came → List ℕ → Bool
knows_elements o came is = is_whole o is || are_here (offsets_wanted o is) came

-- What rows of a plan want next, where so much has arrived, with what they wanted before: of lists the offsets, and the
-- elements where it is known which.
abbrev mutual
  pub wanted : PlanTree → Came → List ℕ → List Place
  wanted (leaf d s gs) came is = leaf_wanted 0 (places_of d s gs) is
  wanted (rows d vs) came is = []
  wanted (evaluate d e p) came is = wanted p came is
  wanted (over d e ps) came is = all_wanted ps came is
  wanted (constant d e) came is = []
  wanted (lists d p o) came is = offsets_wanted o is ++ (if knows_elements o came is then wanted p came (element_rows o (arrived came) is) else [])
  wanted (lengths o) came is = offsets_wanted o is
  wanted (valid p v) came is = wanted v came is ++ wanted p came is
  wanted (numbers k) came is = []
  wanted (by_lengths d e t f p) came is = wanted p came is

  pub all_wanted : PlanTrees → Came → List ℕ → List Place
  all_wanted no_plans came is = []
  all_wanted (plan p ps) came is = wanted p came is ++ all_wanted ps came is

-- the ids of all that a plan may ever want, whatever arrives
abbrev mutual
  pub may : PlanTree → List ℕ
  may (leaf d s gs) = map (λ (g : ℕ × ℕ). g.0) gs
  may (rows d vs) = []
  may (evaluate d e p) = may p
  may (over d e ps) = all_may ps
  may (constant d e) = []
  may (lists d p o) = map (λ (g : ℕ × ℕ). g.0) o.segments ++ may p
  may (lengths o) = map (λ (g : ℕ × ℕ). g.0) o.segments
  may (valid p v) = may v ++ may p
  may (numbers k) = []
  may (by_lengths d e t f p) = may p

  pub all_may : PlanTrees → List ℕ
  all_may no_plans = []
  all_may (plan p ps) = may p ++ all_may ps

-- one of the segments has this id
abbrev pub names_id : ℕ → List Place → Bool
names_id id places = list_any (λ (p : Place). p.id == id) places

-- the id is among the segments, and nothing has arrived of it
abbrev pub lacks : List Place → Came → ℕ → Bool
lacks places came id = names_id id places && is_none (came id)

-- nothing of these segments lacks
abbrev pub Complete : List Place → Came → Type 0
Complete places came = (id : ℕ) → lacks places came id ≡ false

-- what arrived is missing, or is not spelled as the place has it
abbrev pub is_bad : Place → Option (Option (List ℕ)) → Bool
is_bad p None = false
is_bad p (Some None) = true
is_bad p (Some (Some bytes)) = is_none (decode p.spelling p.dtype p.rows bytes)

-- one of the segments has this id, and what arrived of it is no good there
abbrev pub spoils : List Place → Came → ℕ → Bool
spoils places came id = list_any (λ (p : Place). (p.id == id) && is_bad p (came id)) places

-- whatever has arrived of these segments is spelled as its place has it
abbrev pub NoneBad : List Place → Came → Type 0
NoneBad places came = (id : ℕ) → spoils places came id ≡ false

-- one of these rows has an offset that is no good, which stands in the segment of this id
abbrev pub any_bad : OffsetsData → Store → ℕ → List ℕ → ℕ → Bool
any_bad o store before [] id = false
any_bad o store before (i ∷ is) id =
    (is_bad_offset o.elements before (offset_at o store i) && names_id id (leaf_wanted 0 (offset_places o) (i ∷ [])))
    || any_bad o store (before_next (offset_at o store i)) is id

-- the segment of this id holds offsets of lists at these rows, and what arrived of it is no good
abbrev pub offsets_spoiled : OffsetsData → Came → List ℕ → ℕ → Bool
offsets_spoiled o came is id = spoils (offsets_wanted o is) came id || any_bad o (arrived came) 0 (offset_rows is) id

-- what arrived of the segment of this id is no good for rows of a plan
abbrev mutual
  pub spoiled : PlanTree → Came → List ℕ → ℕ → Bool
  spoiled (leaf d s gs) came is id = spoils (leaf_wanted 0 (places_of d s gs) is) came id
  spoiled (rows d vs) came is id = false
  spoiled (evaluate d e p) came is id = spoiled p came is id
  spoiled (over d e ps) came is id = any_spoiled ps came is id
  spoiled (constant d e) came is id = false
  spoiled (lists d p o) came is id = offsets_spoiled o came is id
      || (if knows_elements o came is then spoiled p came (element_rows o (arrived came) is) id else false)
  spoiled (lengths o) came is id = offsets_spoiled o came is id
  spoiled (valid p v) came is id = spoiled v came is id || spoiled p came is id
  spoiled (numbers k) came is id = false
  spoiled (by_lengths d e t f p) came is id = spoiled p came is id

  pub any_spoiled : PlanTrees → Came → List ℕ → ℕ → Bool
  any_spoiled no_plans came is id = false
  any_spoiled (plan p ps) came is id = spoiled p came is id || any_spoiled ps came is id

-- of the bits of the rows from a first one on, those of the rows from a start up to an end
abbrev pub part_of : ℕ → ℕ → ℕ → List Bool → List Bool
part_of first start end bits = take ((end - first) - (start - first)) (drop (start - first) bits)
