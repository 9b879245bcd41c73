-- Where the fields stand that an operator takes of a struct.
use Rattle.std.specs.Prelude.{ℕ, zero, suc, cond, nat_lt, length, bytes_eq, List, [], ◌∷◌, map}
use Rattle.std.specs.List.{position_or_len}
use Rattle.scan_values.specs.DataType.{Name, Fields}
use Rattle.scan_values.specs.NameFaults.{has_name, field_names}
use Rattle.scan_values.specs.Marked.{Marked, null, Markeds, none, more, listed}
use Rattle.scan_expr.specs.declared.op.Unary.{Unary}
use Rattle.scan_expr.specs.declared.op.Unary.TheVariants.{GetItem, Select, Exclude, Not, IsNull, IsNotNull, ListLength}

-- the place of the first field of this name
abbrev pub place_of : Fields → Name → ℕ
place_of fs n = position_or_len (bytes_eq n) (field_names fs)

-- the places of the fields of other names, counted from i
abbrev pub left_places : List Name → ℕ → List Name → List ℕ
left_places ns i [] = []
left_places ns i (m ∷ ms) = cond (has_name m ns) (left_places ns (suc i) ms) (i ∷ left_places ns (suc i) ms)

-- the places of the fields that an operator takes
abbrev pub unary_places : Unary → Fields → List ℕ
unary_places (GetItem n) fs = place_of fs n ∷ []
unary_places (Select ns) fs = map (place_of fs) ns
unary_places (Exclude ns) fs = left_places ns 0 (field_names fs)
unary_places Not fs = []
unary_places IsNull fs = []
unary_places IsNotNull fs = []
unary_places ListLength fs = []

-- the value at a place; past the last, null
abbrev pub nth : Markeds → ℕ → Marked
nth none i = null
nth (more m ms) zero = m
nth (more m ms) (suc i) = nth ms i

-- the values at these places
abbrev pub all_at : Markeds → List ℕ → Markeds
all_at ms [] = none
all_at ms (p ∷ ps) = more (nth ms p) (all_at ms ps)

-- those of them that are there
abbrev pub there_at : Markeds → List ℕ → Markeds
there_at ms [] = none
there_at ms (p ∷ ps) = cond (nat_lt p (length (listed ms))) (more (nth ms p) (there_at ms ps)) (there_at ms ps)
