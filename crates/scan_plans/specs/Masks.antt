-- Masks that are known, or that filters still have to make.
use Rattle.std.specs.Prelude.{◌≡◌, ◌+◌, ◌||◌, ◌&&◌, ℕ, Bool, true, false, List, [], ◌∷◌, ◌++◌, length, drop, if◌then◌else◌, refl}
use Rattle.std.specs.Coded.{Coded, code_by, coded×, coded_list, coded_ℕ, coded_bool}
use Rattle.scan_values.specs.Fits.{is_bool_type}
use Rattle.scan_values.specs.Marked.{is_true}
use Rattle.scan_values.specs.Selections.{is_among}
use Rattle.scan_segments.specs.Source.{Store}
use Rattle.scan_spelling.specs.Places.{Place}
use Rattle.scan_plans.specs.PlanTree.{PlanTree}
use Rattle.scan_plans.specs.PlanCode.{plan_code}
use Rattle.scan_plans.specs.Came.{Came, arrived, Extends, Holds}
use Rattle.scan_plans.specs.Meaning.{value_at, damage_on, overflow_on, plan_dtype, true_rows, Within}
use Rattle.scan_plans.specs.Wants.{wanted, may, are_here, lacks, spoiled}

-- a plan that is to be true, and its row at which the mask begins
abbrev pub Filter : Type 0
Filter = PlanTree × ℕ

-- a mask that is known, and the filters that are still to run over it, in order
pub record MaskData : Type 0 where
  pub known : List Bool
  pub filters : List Filter

abbrev pub mask_data : List Bool → List Filter → MaskData
mask_data bits fs = record { known = bits; filters = fs }

abbrev pub mask_code : Coded MaskData
mask_code = code_by (List Bool × List Filter) (coded× (coded_list coded_bool) (coded_list (coded× plan_code coded_ℕ)))
    (λ m. (m.known, m.filters)) (λ p. record { known = p.0; filters = p.1 }) (λ _. refl)

-- the rows of a mask, which begins at a row of a plan, at which the plan is true
abbrev pub kept : PlanTree → Store → ℕ → List Bool → List Bool
kept p store i [] = []
kept p store i (b ∷ bits) = (b && is_true (value_at p store i)) ∷ kept p store (i + 1) bits

-- the mask after all filters
abbrev pub filtered : Store → List Bool → List Filter → List Bool
filtered store bits [] = bits
filtered store bits (f ∷ fs) = filtered store (kept f.0 store f.1 bits) fs

abbrev pub mask_of : MaskData → Store → List Bool
mask_of m store = filtered store m.known m.filters

-- some filter overflows at a row that is true when it runs
abbrev pub spilled : Store → List Bool → List Filter → Bool
spilled store bits [] = false
spilled store bits (f ∷ fs) = overflow_on f.0 store (true_rows f.1 bits) || spilled store (kept f.0 store f.1 bits) fs

abbrev pub mask_overflow : MaskData → Store → Bool
mask_overflow m store = spilled store m.known m.filters

-- some filter is damaged at a row that is true when it runs
abbrev pub damaged : Store → List Bool → List Filter → Bool
damaged store bits [] = false
damaged store bits (f ∷ fs) = damage_on f.0 store (true_rows f.1 bits) || damaged store (kept f.0 store f.1 bits) fs

abbrev pub mask_damage : MaskData → Store → Bool
mask_damage m store = damaged store m.known m.filters

-- what is wanted next, with what was wanted before: a filter runs when all that it wants has arrived
abbrev pub filters_wanted : Came → List Bool → List Filter → List Place
filters_wanted here bits [] = []
filters_wanted here bits (f ∷ fs) =
    wanted f.0 here (true_rows f.1 bits) ++ (if are_here
    (wanted f.0 here (true_rows f.1 bits)) here then filters_wanted here
    (kept f.0 (arrived here) f.1 bits) fs else [])

abbrev pub mask_wanted : MaskData → Came → List Place
mask_wanted m here = filters_wanted here m.known m.filters

-- what arrived of the segment of this id is no good for a filter that runs
abbrev pub filters_spoiled : Came → List Bool → List Filter → ℕ → Bool
filters_spoiled here bits [] id = false
filters_spoiled here bits (f ∷ fs) id =
    spoiled f.0 here (true_rows f.1 bits) id || (if are_here
    (wanted f.0 here (true_rows f.1 bits)) here then filters_spoiled here
    (kept f.0 (arrived here) f.1 bits) fs id else false)

abbrev pub mask_spoiled : MaskData → Came → ℕ → Bool
mask_spoiled m here id = filters_spoiled here m.known m.filters id

-- the ids of all that it may ever want
abbrev pub filters_may : List Filter → List ℕ
filters_may [] = []
filters_may (f ∷ fs) = may f.0 ++ filters_may fs

abbrev pub mask_may : MaskData → List ℕ
mask_may m = filters_may m.filters

-- each filter is a Bool plan that has the rows of the mask
abbrev pub AreFilters : ℕ → List Filter → Type 0
AreFilters n [] = Unit {0}
AreFilters n (f ∷ fs) = (Within f.0 (f.1 + n) × (is_bool_type (plan_dtype f.0) ≡ true)) × AreFilters n fs

abbrev pub IsMask : MaskData → Type 0
IsMask m = AreFilters (length m.known) m.filters

-- so many of some filters ran, and these are left
abbrev pub AreLeft : List Filter → List Filter → Type 0
AreLeft new old = (ran : ℕ) × (new ≡ drop ran old)

-- Two mask futures mean the same under every store that holds what has arrived, and the first wants no more. Whatever
-- arrives then, the same lacks for both, and what is no good for the first is none for the second. The filters of the
-- first are those that are left of the second's.
pub record SameMask (here : Came) (new old : MaskData) : Type 0 where
  pub mask : (store : Store) → Holds store here → mask_of new store ≡ mask_of old store
  pub overflow : (store : Store) → Holds store here → mask_overflow new store ≡ mask_overflow old store
  pub damage : (store : Store) → Holds store here → mask_damage new store ≡ mask_damage old store
  pub may : (id : ℕ) → is_among (mask_may new) id ≡ true → is_among (mask_may old) id ≡ true
  pub lacking : (more : Came) → Extends here more → (id : ℕ) → lacks (mask_wanted new more) more id ≡ lacks (mask_wanted old more) more id
  pub spoiling : (more : Came) → Extends here more → (id : ℕ) → mask_spoiled new more id ≡ true → mask_spoiled old more id ≡ true
  pub left : AreLeft new.filters old.filters
