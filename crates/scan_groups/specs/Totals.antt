-- Running totals of measures.
use Rattle.std.specs.Prelude.{◌≡◌, ◌≤◌, ℕ, ◌==◌, pos, ℤ, ◌+ℤ◌, ◌-ℤ◌, List, [], ◌∷◌, ◌++◌, Bool, true, false, not, cond, Option, None, Some, All, filter, get_or, length, map, if◌then◌else◌}
use Rattle.scan_values.specs.Val.{Val, null_val, int_val}
use Rattle.scan_values.specs.Values.{val_of}
use Rattle.scan_groups.specs.Rows.{Row, IsLeast, IsGreatest, OrNull, is_null, sum_of, is_in_range}
use Rattle.scan_groups.specs.declared.sum.Sum.{Sum}
use Rattle.scan_groups.specs.declared.tally.Tally.{Tally}
use Rattle.scan_groups.specs.declared.tally.Tally.TheVariants as tally
use Rattle.scan_groups.specs.declared.measure.Measured.{Measured}
use Rattle.scan_groups.specs.declared.measure.Measured.TheVariants.{Count, Values, Sum as Summed, Least, Greatest}

-- none is null
abbrev pub NoneNull : List Val → Type 0
NoneNull vs = All (λ v. is_null v ≡ false) vs

-- the values that are not null
abbrev pub there : List Val → List Val
there vs = filter (λ v. not (is_null v)) vs

-- whether there is a value
abbrev pub is_some_value : List Val → Bool
is_some_value [] = false
is_some_value (v ∷ vs) = true

-- a sum in parts: what is near, and the positive and the negative values besides, apart
pub record IsSum (s : Sum) (vs : List Val) : Type 0 where
  pub any : s.any ≡ is_some_value vs
  pub parts : s.near +ℤ pos s.above ≡ sum_of vs +ℤ pos s.below

-- that of no values
abbrev pub no_sum : Sum
no_sum = record { any = false; near = pos 0; above = 0; below = 0 }

-- ---- what measures have come to over values, null or not
abbrev pub IsCount : List Val → ℕ → Type 0
IsCount vs n = n ≡ length vs

abbrev pub IsCountOf : List Val → ℕ → Type 0
IsCountOf vs n = n ≡ length (there vs)

abbrev pub IsSumOf : List Val → Sum → Type 0
IsSumOf vs s = IsSum s (there vs)

abbrev pub IsLeastOf : List Val → Val → Type 0
IsLeastOf vs v = OrNull IsLeast (there vs) v

abbrev pub IsGreatestOf : List Val → Val → Type 0
IsGreatestOf vs v = OrNull IsGreatest (there vs) v

-- the total at a place is that of values
abbrev pub IsTotal : Tally → ℕ → List Val → Type 0
IsTotal (tally.Count ns) p vs = IsCount vs (get_or ns p 0)
IsTotal (tally.Values at ns) p vs = IsCountOf vs (get_or ns.items p 0)
IsTotal (tally.Sum at ss) p vs = IsSumOf vs (get_or ss p no_sum)
IsTotal (tally.Least at us) p vs = IsLeastOf vs (get_or (map val_of us.items) p null_val)
IsTotal (tally.Greatest at us) p vs = IsGreatestOf vs (get_or (map val_of us.items) p null_val)

-- ---- one measure
abbrev pub measured_by : Tally → Measured
measured_by (tally.Count ns) = Count
measured_by (tally.Values at ns) = Values at
measured_by (tally.Sum at ss) = Summed at
measured_by (tally.Least at us) = Least at
measured_by (tally.Greatest at us) = Greatest at

-- at how many places it was told
abbrev pub length_of : Tally → ℕ
length_of (tally.Count ns) = length ns
length_of (tally.Values at ns) = length ns.items
length_of (tally.Sum at ss) = length ss
length_of (tally.Least at us) = length us.items
length_of (tally.Greatest at us) = length us.items

-- the place of what a measure reads
abbrev pub place_read : Measured → Option ℕ
place_read Count = None
place_read (Values place) = Some place
place_read (Summed place) = Some place
place_read (Least place) = Some place
place_read (Greatest place) = Some place

-- what is read of a row at a place; null where nothing is
abbrev pub val_at : Option ℕ → Row → Val
val_at None row = null_val
val_at (Some place) row = get_or row.read place null_val

-- what a measure reads of rows
abbrev pub vals_read : Measured → List Row → List Val
vals_read m rows = map (val_at (place_read m)) rows

-- the total at a place is that of rows
abbrev pub IsTotalOf : List Row → ℕ → Tally → Type 0
IsTotalOf rows p t = IsTotal t p (vals_read (measured_by t) rows)

-- ---- with further values, each at a place
-- those at one place
abbrev pub picked : ℕ → List ℕ → List Val → List Val
picked p [] vs = []
picked p (q ∷ qs) [] = []
picked p (q ∷ qs) (v ∷ vs) = cond (q == p) (v ∷ picked p qs vs) (picked p qs vs)

-- what holds of the values before and of the total at a place holds with those of the place and the new total
abbrev pub Adds : {X : Type 0} → (List Val → X → Type 0) → X → List ℕ → List Val → List X → List X → Type 0
Adds R none places vs old new = (before : List Val) (p : ℕ) → R before (get_or old p none) → R (before ++ picked p places vs) (get_or new p none)

-- a tally with further values, each at a place; no longer than it was, or than so many places
pub record IsMore (old : Tally) (given : List ℕ) (vs : List Val) (groups : ℕ) (new : Tally) : Type 0 where
  pub of : measured_by new ≡ measured_by old
  pub short : (n : ℕ) → length_of old ≤ n → groups ≤ n → length_of new ≤ n
  pub totals : (before : List Val) (p : ℕ) → IsTotal old p before → IsTotal new p (before ++ picked p given vs)

-- ---- the value of a total
-- the sum that its parts have
abbrev pub netted : Sum → ℤ
netted s = s.near +ℤ pos s.above -ℤ pos s.below

-- a sum, if it is an i64 or a u64
abbrev pub in_range : ℤ → Option ℤ
in_range z = if is_in_range z then Some z else None

abbrev pub sum_val : Bool → Option ℤ → Val
sum_val true (Some z) = int_val z
sum_val _ _ = null_val

abbrev pub val_of_sum : Sum → Val
val_of_sum s = sum_val s.any (in_range (netted s))

-- that at a place
abbrev pub total_val : ℕ → Tally → Val
total_val p (tally.Count ns) = int_val (pos (get_or ns p 0))
total_val p (tally.Values at ns) = int_val (pos (get_or ns.items p 0))
total_val p (tally.Sum at ss) = val_of_sum (get_or ss p no_sum)
total_val p (tally.Least at us) = get_or (map val_of us.items) p null_val
total_val p (tally.Greatest at us) = get_or (map val_of us.items) p null_val

-- whether it is a sum that is neither an i64 nor a u64
abbrev pub is_past : ℕ → Tally → Bool
is_past p (tally.Sum at ss) = not (is_in_range (netted (get_or ss p no_sum)))
is_past p _ = false
