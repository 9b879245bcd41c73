-- Names of items and of parts.
use Rattle.std.proofs.Common.{◌≡◌, ℕ, ◌<◌, ◌^◌, Bool, true, false, refl, ap, sym, ◌∙◌, bytes_eq}
use Rattle.std.proofs.lemmas.Slice.Eq.{bytes_eq-Decides}
use Rattle.std.proofs.lemmas.Fmt.{decimal_is_IsNumeral}
use Rattle.std.specs.Fmt.{decimal}
use Rattle.std.specs.Str.Parse.{digits_value}
use Rattle.scan_values.specs.DataType.{Name}
use Rattle.scan_partition.specs.Rows.{IsPlain}
use Rattle.scan_partition.specs.declared.item.Item.{Item}
use Rattle.scan_partition.specs.declared.item.Item.TheVariants.{Field, Validity}
use Rattle.scan_partition.specs.Items.{validity_name, item_name, same_item}

pub false_if : (b : Bool) → (b ≡ true → ⊥) → b ≡ false
false_if true h = absurd (h refl)
false_if false h = refl

pub bytes_eq-refl : (n : Name) → bytes_eq n n ≡ true
bytes_eq-refl n = (bytes_eq-Decides n n).1 refl

pub same_item-refl : (i : Item) → same_item i i ≡ true
same_item-refl (Field n) = bytes_eq-refl n
same_item-refl Validity = refl

pub decimal-apart : (a b : ℕ) → a < 2 ^ 64 → b < 2 ^ 64 → (a ≡ b → ⊥) → bytes_eq (decimal a) (decimal b) ≡ false
decimal-apart a b ha hb h = false_if (bytes_eq (decimal a) (decimal b)) (λ e. h (same ((bytes_eq-Decides (decimal a) (decimal b)).0 e)))
  where
    same : decimal a ≡ decimal b → a ≡ b
    same e = sym (decimal_is_IsNumeral a ha).1 ∙ ap (digits_value 10) e ∙ (decimal_is_IsNumeral b hb).1

pub item_name-same : (i j : Item) → IsPlain i → IsPlain j → bytes_eq (item_name i) (item_name j) ≡ same_item i j
item_name-same (Field n) (Field m) p q = refl
item_name-same (Field n) Validity p q = false_if (bytes_eq n validity_name) (λ e. p ((bytes_eq-Decides n validity_name).0 e))
item_name-same Validity (Field m) p q = false_if (bytes_eq validity_name m) (λ e. q (sym ((bytes_eq-Decides validity_name m).0 e)))
item_name-same Validity Validity p q = bytes_eq-refl validity_name
