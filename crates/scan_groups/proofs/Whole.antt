-- All groups, at the end.
use Rattle.std.proofs.Common.{◌≡◌, ◌⊎◌, inl, inr, ℕ, zero, suc, ◌+◌, ◌<◌, ◌≤◌, true, false, List, length, map, refl, sym, ap, subst, arith}
use Rattle.std.specs.List.{slice_get}
use Rattle.std.specs.BTreeMap.{IsOrdered}
use Rattle.scan_groups.specs.Order.{key_cmp}
use Rattle.scan_groups.specs.Rows.{Row, AreGroups, IsPast, IsFirstPast}
use Rattle.scan_groups.specs.Running.{AreOf, is_past_in, made_of}
use Rattle.scan_groups.specs.declared.group.Group.{Group}
use Rattle.scan_groups.specs.declared.groups.Groups.{Groups}
use Rattle.scan_groups.specs.declared.measure.Measured.{Measured}
use Rattle.scan_groups.proofs.Grouping.{none_past, past_beyond, first_past, all_groups}

less_or_same : (j k : ℕ) → j < k + 1 → (j < k) ⊎ (j ≡ k)
less_or_same zero zero lt = inr refl
less_or_same zero (suc k) lt = inl (omega arith)
less_or_same (suc j) zero lt = absurd (omega (arith, lt))
less_or_same (suc j) (suc k) lt = go (less_or_same j k (omega (arith, lt)))
  where
    go : (j < k) ⊎ (j ≡ k) → (suc j < suc k) ⊎ (suc j ≡ suc k)
    go (inl l) = inl (omega (arith, l))
    go (inr e) = inr (ap suc e)

pub less_or_not : (i n : ℕ) → (i < n) ⊎ (n ≤ i)
less_or_not i zero = inr (omega arith)
less_or_not zero (suc n) = inl (omega arith)
less_or_not (suc i) (suc n) = go (less_or_not i n)
  where
    go : (i < n) ⊎ (n ≤ i) → (suc i < suc n) ⊎ (suc n ≤ suc i)
    go (inl l) = inl (omega (arith, l))
    go (inr l) = inr (omega (arith, l))

abbrev pub IsPastIn : Groups → ℕ → Type 0
IsPastIn g i = is_past_in g.places.keys (slice_get g.tallies.items i) ≡ true

abbrev pub IsNotPast : Groups → ℕ → Type 0
IsNotPast g i = is_past_in g.places.keys (slice_get g.tallies.items i) ≡ false

pub below_more : (g : Groups) (k : ℕ) → ((j : ℕ) → j < k → IsNotPast g j) → IsNotPast g k → (j : ℕ) → j < k + 1 → IsNotPast g j
below_more g k h e j lt = go (less_or_same j k lt)
  where
    go : (j < k) ⊎ (j ≡ k) → IsNotPast g j
    go (inl l) = h j l
    go (inr s) = subst (IsNotPast g) (sym s) e

pub finished : (keys : ℕ) (ms : List Measured) (rows : List Row) (g : Groups) (groups : List Group) → IsOrdered key_cmp g.places.keys → AreOf keys ms rows g
    → ((i : ℕ) → i < length g.tallies.items → IsNotPast g i) → groups ≡ map (made_of g.tallies.items) g.places.keys.entries
    → AreGroups keys ms rows groups × ((i : ℕ) → IsPast ms rows i → ⊥)
finished keys ms rows g groups ordered h none e =
    (all_groups keys ms rows g ordered h groups e nowhere, λ i past. none_past keys ms rows g ordered h i (nowhere i) past)
  where
    nowhere : (i : ℕ) → IsNotPast g i
    nowhere i = go (less_or_not i (length g.tallies.items))
      where
        go : (i < length g.tallies.items) ⊎ (length g.tallies.items ≤ i) → IsNotPast g i
        go (inl l) = none i l
        go (inr l) = past_beyond g i l

pub stopped : (keys : ℕ) (ms : List Measured) (rows : List Row) (g : Groups) (i : ℕ) → IsOrdered key_cmp g.places.keys → AreOf keys ms rows g
    → IsPastIn g i → ((j : ℕ) → j < i → IsNotPast g j) → IsFirstPast ms rows i
stopped keys ms rows g i ordered h past none = first_past keys ms rows g ordered h i past none
