-- Arrays that may have to wait: projections of a plan under a mask, and arrays that are there, under further masks.
use Rattle.std.specs.Prelude.{◌≡◌, ◌≤◌, ◌+◌, ◌^◌, ◌||◌, ◌++◌, ℕ, Bool, true, false, List, [], ◌∷◌, length, map, replicate, refl}
use Rattle.std.specs.Coded.{Coded, code_by, coded×, coded_list, coded_ℕ}
use Rattle.scan_values.specs.Arrays.{ArrayData}
use Rattle.scan_values.specs.DataType.{DataType}
use Rattle.scan_values.specs.Marked.{Marked}
use Rattle.scan_values.specs.Val.{marked}
use Rattle.scan_segments.specs.Source.{Store}
use Rattle.scan_spelling.specs.Places.{Place}
use Rattle.scan_plans.specs.Came.{Came, arrived, Holds}
use Rattle.scan_plans.specs.Masks.{MaskData, mask_data, mask_code, mask_of}
use Rattle.scan_plans.specs.MaskLists.{under, dtype_under, masks_damage, masks_overflow, masks_wanted, masks_spoiled, masks_may, SameMasks}
use Rattle.scan_plans.specs.Meaning.{value_at, overflow_on, plan_dtype, true_rows, Within}
use Rattle.scan_plans.specs.PlanCode.{plan_code}
use Rattle.scan_plans.specs.PlanData.{PlanData}
use Rattle.scan_plans.specs.PlanTree.{PlanTree, rows}
use Rattle.scan_plans.specs.Wants.{wanted, may, spoiled}

-- a plan, its row at which its mask begins, that mask, and the masks outside which its values are null
pub record FutureData : Type 0 where
  pub tree : PlanTree
  pub first : ℕ
  pub mask : MaskData
  pub outer : List MaskData

abbrev pub future_code : Coded FutureData
future_code = code_by (PlanTree × (ℕ × (MaskData × List MaskData)))
    (coded× plan_code (coded× coded_ℕ (coded× mask_code (coded_list mask_code))))
    (λ f. (f.tree, (f.first, (f.mask, f.outer))))
    (λ p. record { tree = p.0; first = p.1.0; mask = p.1.1.0; outer = p.1.1.1 }) (λ _. refl)

-- a projection
abbrev pub future_data : PlanData → ℕ → MaskData → FutureData
future_data p k m = record { tree = p.tree; first = k; mask = m; outer = [] }

-- all rows of so many
abbrev pub full : ℕ → MaskData
full n = mask_data (replicate n true) []

-- an array that is there
abbrev pub array_data : ArrayData → FutureData
array_data a = record { tree = rows a.dtype a.items; first = 0; mask = full (length a.items); outer = [] }

-- the same under a further mask
abbrev pub masked_data : FutureData → MaskData → FutureData
masked_data f m = record { tree = f.tree; first = f.first; mask = f.mask; outer = f.outer ++ m ∷ [] }

-- the plan has the rows of its mask
abbrev pub IsFuture : FutureData → Type 0
IsFuture f = Within f.tree (f.first + length (f.mask).known)

-- its masks, in the order in which it waits for them
abbrev pub masks_in : FutureData → List MaskData
masks_in f = f.mask ∷ f.outer

-- the dtype of the array
abbrev pub future_dtype : FutureData → DataType
future_dtype f = dtype_under f.outer (plan_dtype f.tree)

-- the rows that it gives
abbrev pub rows_of : FutureData → Store → List ℕ
rows_of f store = true_rows f.first (mask_of f.mask store)

-- the rows of what is known of its mask
abbrev pub known_rows : FutureData → List ℕ
known_rows f = true_rows f.first (f.mask).known

-- each row that its mask may give has a number
abbrev pub InNumbers : FutureData → Type 0
InNumbers f = f.first + length (f.mask).known ≤ 2 ^ 64

-- their values, null outside the further masks
abbrev pub items_of : FutureData → Store → List Marked
items_of f store = under store f.outer (map (value_at f.tree store) (rows_of f store))

-- some filter of its masks overflows, or the plan does at a row that it gives
abbrev pub future_overflow : FutureData → Store → Bool
future_overflow f store = masks_overflow (masks_in f) store || overflow_on f.tree store (rows_of f store)

-- some filter of its masks is damaged
abbrev pub future_damage : FutureData → Store → Bool
future_damage f store = masks_damage (masks_in f) store

-- what is wanted next, with what was wanted before: its masks first
abbrev pub future_wanted : FutureData → Came → List Place
future_wanted f here = masks_wanted (masks_in f) here (wanted f.tree here (rows_of f (arrived here)))

-- what arrived of the segment of this id is no good for its masks or its rows
abbrev pub future_spoiled : FutureData → Came → ℕ → Bool
future_spoiled f here id = masks_spoiled (masks_in f) here id (spoiled f.tree here (rows_of f (arrived here)) id)

-- the ids of all that it may ever want
abbrev pub future_may : FutureData → List ℕ
future_may f = masks_may (masks_in f) ++ may f.tree

-- the two mean the same under every store that holds what has arrived, and the first wants no more
pub record SameFuture (here : Came) (new old : FutureData) : Type 0 where
  pub tree : new.tree ≡ old.tree
  pub first : new.first ≡ old.first
  pub masks : SameMasks here (masks_in new) (masks_in old)

-- the values of its rows, none of which overflows, by filters without damage, whatever holds what has arrived
pub record GivesItems (here : Came) (f : FutureData) (a : ArrayData) : Type 0 where
  pub dtype : a.dtype ≡ future_dtype f
  pub items : (store : Store) → Holds store here → map marked a.items ≡ items_of f store
  pub within : (store : Store) → Holds store here → future_overflow f store ≡ false
  pub clean : (store : Store) → Holds store here → future_damage f store ≡ false

-- what is known of its mask are the rows that it gave, whatever holds what has arrived, and an array has as many values
pub record AreRows (here : Came) (old new : FutureData) (a : ArrayData) : Type 0 where
  pub rows : (store : Store) → Holds store here → known_rows new ≡ rows_of old store
  pub count : length a.items ≡ length (known_rows new)
