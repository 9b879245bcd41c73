-- Groups of rows by their keys, and what measures tell of a group.
use Rattle.std.specs.Prelude.{◌≡◌, ◌⊎◌, ℕ, ◌<◌, ◌^◌, ℤ, pos, negsuc, ◌+ℤ◌, nat_lt, List, [], ◌∷◌, Bool, true, false, not, Option, Some, All, Contains, filter, map, length, get_or}
use Rattle.std.specs.List.{slice_get}
use Rattle.std.specs.List.Sorted.{IsStrictlySortedBy}
use Rattle.std.specs.Ordering.{is_gt, is_lt}
use Rattle.scan_values.specs.Val.{Val, null_val, int_val}
use Rattle.scan_groups.specs.Order.{value_cmp, key_cmp, same_key, number_of}
use Rattle.scan_groups.specs.declared.group.Group.{Group}
use Rattle.scan_groups.specs.declared.measure.Measured.{Measured}
use Rattle.scan_groups.specs.declared.measure.Measured.TheVariants.{Count, Values, Sum, Least, Greatest}

-- a row: the values of its key, and what measures read of it
pub record Row : Type 0 where
  pub key : List Val
  pub read : List Val

-- the rows of a key; null is the same as null
abbrev pub group_of : List Row → List Val → List Row
group_of rows k = filter (λ (row : Row). same_key row.key k) rows

abbrev pub is_null : Val → Bool
is_null null_val = true
is_null _ = false

-- what is read at a place of rows, where it is not null
abbrev pub values_at : ℕ → List Row → List Val
values_at place rows = filter (λ v. not (is_null v)) (map (λ (row : Row). get_or row.read place null_val) rows)

-- the sum of integers
abbrev pub sum_of : List Val → ℤ
sum_of [] = pos 0
sum_of (v ∷ vs) = number_of v +ℤ sum_of vs

-- one of the values, above which none is
pub record IsLeast (vs : List Val) (v : Val) : Type 0 where
  pub among : Contains vs v
  pub below : All (λ w. is_gt (value_cmp v w) ≡ false) vs

-- one of the values, below which none is
pub record IsGreatest (vs : List Val) (v : Val) : Type 0 where
  pub among : Contains vs v
  pub above : All (λ w. is_lt (value_cmp v w) ≡ false) vs

-- of no values null
abbrev pub OrNull : (List Val → Val → Type 0) → List Val → Val → Type 0
OrNull P [] v = v ≡ null_val
OrNull P (w ∷ ws) v = P (w ∷ ws) v

-- what a measure is of the rows of a group
abbrev pub IsMeasure : List Row → Measured → Val → Type 0
IsMeasure rows Count v = v ≡ int_val (pos (length rows))
IsMeasure rows (Values place) v = v ≡ int_val (pos (length (values_at place rows)))
IsMeasure rows (Sum place) v = OrNull (λ vs u. u ≡ int_val (sum_of vs)) (values_at place rows) v
IsMeasure rows (Least place) v = OrNull IsLeast (values_at place rows) v
IsMeasure rows (Greatest place) v = OrNull IsGreatest (values_at place rows) v

-- what each of several measures is
abbrev pub AreMeasures : List Measured → List Row → List Val → Type 0
AreMeasures [] rows [] = Unit {0}
AreMeasures (m ∷ ms) rows (v ∷ vs) = IsMeasure rows m v × AreMeasures ms rows vs
AreMeasures _ rows _ = ⊥

-- a row has this key, or keys have no values
abbrev pub IsKeyOf : ℕ → List Row → List Val → Type 0
IsKeyOf keys rows k = ((keys ≡ 0) × (k ≡ [])) ⊎ Contains (map (λ (row : Row). row.key) rows) k

abbrev pub keys_of : List Group → List (List Val)
keys_of groups = map (λ (g : Group). g.key) groups

-- Groups of rows by keys of so many values: their keys rise, each is that of a row and each row's is among them, and each
-- group has the measures of its rows. Where keys have no values there is one group.
pub record AreGroups (keys : ℕ) (ms : List Measured) (rows : List Row) (groups : List Group) : Type 0 where
  pub rising : IsStrictlySortedBy key_cmp (keys_of groups)
  pub each : All (λ (g : Group). IsKeyOf keys rows g.key) groups
  pub all : All (λ (row : Row). Contains (keys_of groups) row.key) rows
  pub one : keys ≡ 0 → Contains (keys_of groups) []
  pub measures : All (λ (g : Group). AreMeasures ms (group_of rows g.key) g.measures) groups

-- an i64 or a u64
abbrev pub is_in_range : ℤ → Bool
is_in_range (pos n) = nat_lt n (2 ^ 64)
is_in_range (negsuc n) = nat_lt n (2 ^ 63)

-- whether a measure is a sum that is neither
abbrev pub is_sum_past : List Row → Option Measured → Bool
is_sum_past rows (Some (Sum place)) = not (is_in_range (sum_of (values_at place rows)))
is_sum_past rows _ = false

-- some group's sum of a measure is neither an i64 nor a u64
abbrev pub IsPast : List Measured → List Row → ℕ → Type 0
IsPast ms rows measure = (k : List Val) × (is_sum_past (group_of rows k) (slice_get ms measure) ≡ true)

-- this one's is, and no earlier measure's
pub record IsFirstPast (ms : List Measured) (rows : List Row) (measure : ℕ) : Type 0 where
  pub past : IsPast ms rows measure
  pub first : (i : ℕ) → i < measure → IsPast ms rows i → ⊥
