-- What a split of a scan gives, in the words of a reader: of its rows those at which expressions are true, and what they are for.
use Rattle.std.specs.Prelude.{◌≡◌, ◌≤◌, ◌+◌, ◌||◌, ◌&&◌, ◌++◌, ℕ, Bool, true, false, List, [], ◌∷◌, length, map, filter, not}
use Rattle.std.specs.List.{list_any}
use Rattle.scan_values.specs.Fits.{is_bool_type}
use Rattle.scan_values.specs.Val.{is_clean}
use Rattle.scan_segments.specs.Source.{Store}
use Rattle.scan_expr.specs.Bound.{Bound}
use Rattle.scan_expr.specs.Infer.{infer}
use Rattle.scan_plans.specs.Came.{Came, Holds}
use Rattle.scan_plans.specs.Futures.{FutureData, items_of, future_damage, future_dtype, future_overflow, future_wanted, future_spoiled}
use Rattle.scan_plans.specs.Meaning.{true_rows}
use Rattle.scan_plans.specs.PlanData.{PlanData}
use Rattle.scan_plans.specs.Wants.{names_id}
use Rattle.scan_readers.specs.Evaluations.{rows_true, overflows_on}
use Rattle.scan_readers.specs.PlanOf.{IsPlanOf, may_want, may_spoil}
use Rattle.scan_readers.specs.Readers.{ReaderState, numbers_alone, value_of}
use Rattle.scan_streams.specs.Plans.{PlansData, split_data}

-- the rows of a mask, which begins at a row, at which each of several expressions is true
abbrev pub passed : ReaderState → List Bound → Store → ℕ → List Bool → List Bool
passed s [] store first bits = bits
passed s (c ∷ cs) store first bits = passed s cs store first (rows_true s c store first bits)

-- one of them overflows at a row at which all before it are true
abbrev pub passing_overflows : ReaderState → List Bound → Store → ℕ → List Bool → Bool
passing_overflows s [] store first bits = false
passing_overflows s (c ∷ cs) store first bits = overflows_on s c store first bits || passing_overflows s cs store first (rows_true s c store first bits)

-- the value of an expression is damaged at some true row of a mask that begins at a row
abbrev pub damages_on : ReaderState → Bound → Store → ℕ → List Bool → Bool
damages_on s e store first bits = list_any (λ i. not (is_clean (value_of s e store i))) (true_rows first bits)

-- of several expressions one is damaged at a row at which all before it are true
abbrev pub passing_damage : ReaderState → List Bound → Store → ℕ → List Bool → Bool
passing_damage s [] store first bits = false
passing_damage s (c ∷ cs) store first bits = damages_on s c store first bits || passing_damage s cs store first (rows_true s c store first bits)

-- a mask has a true row
abbrev pub has_true : List Bool → Bool
has_true bits = list_any (λ b. b) bits

-- a segment of this id may be wanted for an expression where a row of a mask is true, but none for row numbers alone
abbrev pub rows_may_want : ReaderState → Bound → Store → ℕ → List Bool → ℕ → Bool
rows_may_want s e store first bits id = has_true bits && (not (numbers_alone s e.expr) && may_want s e store first (first + length bits) id)

-- one may be wanted: of a conjunct where some row has all before it true, of the projection where some row has all true
abbrev pub split_may_want : ReaderState → List Bound → Bound → Store → ℕ → List Bool → ℕ → Bool
split_may_want s [] e store first bits id = rows_may_want s e store first bits id
split_may_want s (c ∷ cs) e store first bits id = rows_may_want s c store first bits id || split_may_want s cs e store first (rows_true s c store first bits) id

-- of a segment of this id that may be wanted so for an expression, what a store has may be no good
abbrev pub rows_may_spoil : ReaderState → Bound → Store → ℕ → List Bool → ℕ → Bool
rows_may_spoil s e store first bits id =
    has_true bits && (not (numbers_alone s e.expr) && may_spoil s e store first (first + length bits) id)

-- of one that may be wanted for a split, of a conjunct or of the projection
abbrev pub split_may_spoil : ReaderState → List Bound → Bound → Store → ℕ → List Bool → ℕ → Bool
split_may_spoil s [] e store first bits id = rows_may_spoil s e store first bits id
split_may_spoil s (c ∷ cs) e store first bits id =
    rows_may_spoil s c store first bits id || split_may_spoil s cs e store first (rows_true s c store first bits) id

-- a plan of an expression that is true or false
abbrev pub IsPlanOfBool : ReaderState → Bound → PlanData → Type 0
IsPlanOfBool s c p = IsPlanOf s c p × (is_bool_type (infer c.scope c.expr) ≡ true)

-- conjunct by conjunct
abbrev pub ArePlansOf : ReaderState → List Bound → List PlanData → Type 0
ArePlansOf s [] [] = Unit {0}
ArePlansOf s [] (p ∷ ps) = ⊥
ArePlansOf s (c ∷ cs) [] = ⊥
ArePlansOf s (c ∷ cs) (p ∷ ps) = IsPlanOfBool s c p × ArePlansOf s cs ps

-- the plans of a scan of a reader, by conjuncts in the order in which they run, and a projection
pub record IsScanOf (s : ReaderState) (cs : List Bound) (e : Bound) (p : PlansData) : Type 0 where
  pub conjuncts : ArePlansOf s cs p.conjuncts
  pub projection : IsPlanOf s e p.projection

-- The array future of a split: the values of an expression at those rows of a mask, which begins at a row of a reader, at
-- which each conjunct is true.
pub record IsSplitOf (s : ReaderState) (cs : List Bound) (e : Bound) (first : ℕ) (mask : List Bool) (f : FutureData) : Type 0 where
  pub dtype : future_dtype f ≡ infer e.scope e.expr
  pub items : (store : Store) → items_of f store ≡ map (value_of s e store) (true_rows first (passed s cs store first mask))
  pub overflow : (store : Store) → future_overflow f store
      ≡ (passing_overflows s cs store first mask || overflows_on s e store first (passed s cs store first mask))
  pub damage : (store : Store) → future_damage f store ≡ passing_damage s cs store first mask
  pub wants : (store : Store) (here : Came) (id : ℕ) → Holds store here → names_id id (future_wanted f here) ≡ true
      → split_may_want s cs e store first mask id ≡ true
  pub spoils : (store : Store) (here : Came) (id : ℕ) → Holds store here → future_spoiled f here id ≡ true
      → split_may_spoil s cs e store first mask id ≡ true

-- conjuncts in the order in which they run: first those over row numbers alone, which want nothing
abbrev pub in_turn : ReaderState → List Bound → List Bound
in_turn s cs = filter (λ (c : Bound). numbers_alone s c.expr) cs ++ filter (λ (c : Bound). not (numbers_alone s c.expr)) cs

-- The same of its items, of what it wants and of what it finds no good, of conjuncts as they are written, in whatever
-- order they run.
pub record IsRowsOf (s : ReaderState) (cs : List Bound) (e : Bound) (first : ℕ) (mask : List Bool) (f : FutureData) : Type 0 where
  pub items : (store : Store) → items_of f store ≡ map (value_of s e store) (true_rows first (passed s cs store first mask))
  pub wants : (store : Store) (here : Came) (id : ℕ) → Holds store here → names_id id (future_wanted f here) ≡ true
      → split_may_want s cs e store first mask id ≡ true
  pub spoils : (store : Store) (here : Came) (id : ℕ) → Holds store here → future_spoiled f here id ≡ true
      → split_may_spoil s cs e store first mask id ≡ true

-- ---- laws
-- the plans of a scan give what its expressions mean
abbrev pub SplitsMeanTheirExpressions : Type 0
SplitsMeanTheirExpressions = (s : ReaderState) (cs : List Bound) (e : Bound) (p : PlansData) (first : ℕ)
    (mask : List Bool) → IsScanOf s cs e p → first + length mask ≤ s.rows
    → IsSplitOf s cs e first mask (split_data p first mask)

-- the order in which conjuncts run changes no row
abbrev pub OrderChangesNoRow : Type 0
OrderChangesNoRow = (s : ReaderState) (cs : List Bound) (store : Store) (first : ℕ) (bits : List Bool)
    → passed s (in_turn s cs) store first bits ≡ passed s cs store first bits

-- what may be wanted in that order may be wanted in the order in which they are written
abbrev pub OrderWantsNoMore : Type 0
OrderWantsNoMore = (s : ReaderState) (cs : List Bound) (e : Bound) (store : Store) (first : ℕ) (bits : List Bool)
    (id : ℕ) → split_may_want s (in_turn s cs) e store first bits id ≡ true
    → split_may_want s cs e store first bits id ≡ true

-- nor is more no good in that order
abbrev pub OrderSpoilsNoMore : Type 0
OrderSpoilsNoMore = (s : ReaderState) (cs : List Bound) (e : Bound) (store : Store) (first : ℕ) (bits : List Bool) (id : ℕ)
    → split_may_spoil s (in_turn s cs) e store first bits id ≡ true → split_may_spoil s cs e store first bits id ≡ true

-- the plans of conjuncts in the order in which they run give and want what the conjuncts mean as they are written
abbrev pub InTurnMeansWritten : Type 0
InTurnMeansWritten = (s : ReaderState) (cs : List Bound) (e : Bound) (p : PlansData) (first : ℕ) (mask : List Bool)
    → IsScanOf s (in_turn s cs) e p → first + length mask ≤ s.rows
    → IsRowsOf s cs e first mask (split_data p first mask)
