-- Where each item's group stands.
use Rattle.std.specs.Prelude.{◌≡◌, ℕ, suc, cond, bytes_eq, List, [], ◌∷◌, Option, Some, None}
use Rattle.std.specs.Ordering.{nat_cmp}
use Rattle.std.specs.Cmp.Lexicographic.{slice_cmp}
use Rattle.std.specs.BTreeMap.{get_by}
use Rattle.std.specs.List.{position_from}
use Rattle.scan_values.specs.DataType.{Name}
use Rattle.scan_partition.specs.declared.item.Item.{Item}
use Rattle.scan_partition.specs.declared.item.Item.TheVariants.{Field, Validity}
use Rattle.scan_partition.specs.declared.places.Places.{Places}
use Rattle.scan_partition.specs.Items.{same_item}
use Rattle.scan_partition.specs.Partition.{Group}

abbrev pub place_of : Places → Item → Option ℕ
place_of p (Field n) = get_by (λ k. slice_cmp nat_cmp n k.now) p.fields
place_of p Validity = p.validity

-- the place of the first of this name
abbrev pub first_place : Name → List Name → Option ℕ
first_place n ns = position_from (λ m. bytes_eq m n) 0 ns

abbrev pub one_later : Option ℕ → Option ℕ
one_later None = None
one_later (Some k) = Some (suc k)

-- the number of an item's group
abbrev pub index_of : Item → List Group → Option ℕ
index_of i [] = None
index_of i (g ∷ gs) = cond (same_item g.0 i) (Some 0) (one_later (index_of i gs))

-- each item's number is that of its group
abbrev pub ArePlaced : Places → List Group → Type 0
ArePlaced p gs = (i : Item) → place_of p i ≡ index_of i gs
