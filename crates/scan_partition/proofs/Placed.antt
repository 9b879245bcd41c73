-- Numbers of items, one more.
use Rattle.std.proofs.Common.{◌≡◌, ℕ, cond, Some, ap, sym, ◌∙◌, bytes_eq}
use Rattle.std.specs.Ordering.{nat_cmp}
use Rattle.std.specs.Cmp.Lexicographic.{slice_cmp}
use Rattle.std.specs.BTreeMap.{get_by}
use Rattle.scan_values.specs.DataType.{Name}
use Rattle.scan_partition.specs.declared.item.Item.{Item}
use Rattle.scan_partition.specs.declared.item.Item.TheVariants.{Field, Validity}
use Rattle.scan_partition.specs.declared.places.Places.{Places}
use Rattle.scan_partition.specs.Items.{same_item}
use Rattle.scan_partition.specs.Places.{place_of}

pub field_placed : (p q : Places) (n : Name) (place : ℕ) (x : Item) → x ≡ Field n → q.validity ≡ p.validity → ((m : Name) → get_by (λ k. slice_cmp nat_cmp m k.now) q.fields ≡ cond (bytes_eq n m) (Some place) (get_by (λ k. slice_cmp nat_cmp m k.now) p.fields))
    → (i : Item) → place_of q i ≡ cond (same_item x i) (Some place) (place_of p i)
field_placed p q n place x h v f (Field m) = f m ∙ ap (λ y. cond (same_item y (Field m)) (Some place) (get_by (λ k. slice_cmp nat_cmp m k.now) p.fields)) (sym h)
field_placed p q n place x h v f Validity = v ∙ ap (λ y. cond (same_item y Validity) (Some place) p.validity) (sym h)
