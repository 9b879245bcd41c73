-- Which group each key has.
use Rattle.std.specs.Prelude.{◌≡◌, ◌⊎◌, ℕ, ◌+◌, ◌<◌, ◌≤◌, List, [], ◌∷◌, ◌++◌, Option, None, Some, true, cond, length, get_or, All}
use Rattle.std.specs.BTreeMap.{get, get_by_text, is_at}
use Rattle.std.specs.Ordering.{int_cmp}
use Rattle.scan_values.specs.Val.{Val, null_val, bool_val, int_val, text_val}
use Rattle.scan_groups.specs.Near.{AreAt}
use Rattle.scan_groups.specs.Order.{key_cmp, same_key, are_scalars}
use Rattle.scan_groups.specs.Rows.{Row, group_of, IsKeyOf}
use Rattle.scan_groups.specs.declared.known.Known.{Known}
use Rattle.scan_groups.specs.declared.places.Places.{Places}

abbrev pub place_of : Places → List Val → Option ℕ
place_of p k = get key_cmp p.keys k

-- the place of the key of a value, as far as the value was asked for
abbrev pub known : Known → Val → Option ℕ
known m null_val = m.null
known m (bool_val b) = cond b m.yes m.no
known m (int_val z) = get int_cmp m.numbers z
known m (text_val s) = get_by_text m.texts s
known m _ = None

-- what is known besides is that this value has this place
abbrev pub Learns : Known → Known → Val → ℕ → Type 0
Learns old new v place = (w : Val) (i : ℕ) → known new w ≡ Some i → (known old w ≡ Some i) ⊎ ((w ≡ v) × (i ≡ place))

-- a key has no place where no row has it
abbrev pub IsPlace : ℕ → List Row → List Val → Option ℕ → Type 0
IsPlace keys rows k None = (group_of rows k ≡ []) × (keys ≡ 0 → k ≡ [] → ⊥)
IsPlace keys rows k (Some i) = IsKeyOf keys rows k

-- the places of the keys of rows, which are scalars
pub record ArePlaces (keys : ℕ) (rows : List Row) (p : Places) : Type 0 where
  pub scalars : All (λ (row : Row). are_scalars row.key ≡ true) rows
  pub at : (k : List Val) → IsPlace keys rows k (place_of p k)
  -- of so many, each of one key
  pub below : (k : List Val) (i : ℕ) → place_of p k ≡ Some i → i < p.count
  pub apart : (k l : List Val) (i : ℕ) → place_of p k ≡ Some i → place_of p l ≡ Some i → same_key k l ≡ true
  -- what is known by a value alone is the place of its key
  pub known : (v : Val) (i : ℕ) → known p.known v ≡ Some i → place_of p (v ∷ []) ≡ Some i
  -- what stands in a slot is true
  pub near : AreAt p.keys p.near

-- further keys have further places
pub record Extends (old new : Places) : Type 0 where
  pub more : old.count ≤ new.count
  pub stays : (k : List Val) (i : ℕ) → place_of old k ≡ Some i → place_of new k ≡ Some i
  pub fresh : (k : List Val) (i : ℕ) → place_of new k ≡ Some i → (place_of old k ≡ Some i) ⊎ ((place_of old k ≡ None) × (old.count ≤ i))

-- a key gets the next place
pub record Begins (old : Places) (key : List Val) (place : ℕ) (new : Places) : Type 0 where
  pub is : place ≡ old.count
  pub count : new.count ≡ old.count + 1
  pub known : new.known ≡ old.known
  pub near : new.near ≡ old.near
  pub at : (k : List Val) → place_of new k ≡ cond (is_at (key_cmp key) k) (Some old.count) (place_of old k)

-- one more row has this place
pub record Placed (keys : ℕ) (rows : List Row) (row : Row) (old new : Places) (place : ℕ) : Type 0 where
  pub places : ArePlaces keys (rows ++ row ∷ []) new
  pub extends : Extends old new
  pub is : place_of new row.key ≡ Some place

-- further rows have these places
pub record PlacedAll (keys : ℕ) (rows run : List Row) (old new : Places) (given : List ℕ) : Type 0 where
  pub places : ArePlaces keys (rows ++ run) new
  pub extends : Extends old new
  pub each : (j : ℕ) (row : Row) → j < length run → place_of new (get_or run j row).key ≡ Some (get_or given j 0)
