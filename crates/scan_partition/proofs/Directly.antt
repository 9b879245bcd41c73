-- An expression that only chooses fields is the struct of what is read of them.
use Rattle.std.proofs.Common.{◌≡◌, ℕ, Bool, true, false, cond, List, [], ◌∷◌, Option, Some, None, refl, ap, sym, ◌∙◌}
use Rattle.scan_values.specs.DataType.{struct_type, Fields, Name}
use Rattle.scan_values.specs.declared.ptype.Nullability.TheVariants.{NonNullable, Nullable}
use Rattle.scan_values.specs.NameFaults.{field_names}
use Rattle.scan_values.specs.Marked.{struct, Markeds}
use Rattle.scan_partition.specs.declared.item.Item.{Item}
use Rattle.scan_partition.specs.declared.item.Item.TheVariants.{Field, Validity}
use Rattle.scan_partition.specs.Items.{spelled, item_of}
use Rattle.scan_expr.specs.Expr.{is_root, Expr, root, row_index, literal, unary, binary, pack, Parts, no_parts, part}
use Rattle.scan_partition.specs.Rows.{Distinct, Even}
use Rattle.scan_partition.specs.Direct.{Choice, same_names, field_item, field_of, chose, direct_parts, direct_at, direct, chosen_types, chosen_values}
use Rattle.scan_expr.specs.declared.op.Unary.{Unary}
use Rattle.scan_expr.specs.declared.op.Unary.TheVariants.{GetItem, Select, Exclude, Not, IsNull, IsNotNull, ListLength}
use Rattle.scan_partition.proofs.Through.{Seen, SeenAll, seen, seen_all, seen_pack, seen_part, same_part, item_of-spelled}
use Rattle.scan_partition.proofs.Parted.{look, get_here}
use Rattle.scan_partition.proofs.Expanded.{taken, taken-all, is_root-sound}

abbrev picked : Choice → SeenAll → SeenAll
picked c x = (chosen_types c x.0, chosen_values c x.0 x.1)

some_inj : {A : Type 0} {x y : A} → Some x ≡ Some y → x ≡ y
some_inj h = cc

taken_names : (ns : List Name) (x : SeenAll) → taken ns x ≡ picked (same_names ns) x
taken_names [] x = refl
taken_names (n ∷ ns) x = ap (seen_part n (look n x)) (taken_names ns x)

module _ (fs : Fields) (ms : Markeds) (k : ℕ) where
  abbrev own : Expr → Seen
  own e = seen (struct_type fs NonNullable) (struct ms) k e

  field_is : (u : Unary) (e : Expr) (f : Name) (o : Option Item) → field_item o ≡ Some f → ((i : Item) → o ≡ Some i → spelled i ≡ unary u e) → own (unary u e) ≡ look f (fs, ms)
  field_is u e f None h g = cc
  field_is u e f (Some Validity) h g = cc
  field_is u e f (Some (Field n)) h g = ap own (sym (g (Field n) refl)) ∙ get_here n (fs, ms) ∙ ap (λ m. look m (fs, ms)) (some_inj h)

  part_is : (e : Expr) (f : Name) → field_of e ≡ Some f → own e ≡ look f (fs, ms)
  part_is root f h = cc
  part_is row_index f h = cc
  part_is (literal d m) f h = cc
  part_is (unary u e) f h = field_is u e f (item_of u e) h (item_of-spelled u e)
  part_is (binary b x y) f h = cc
  part_is (pack ps n) f h = cc

  parts_are : (ps : Parts) (c : Choice) → direct_parts ps ≡ Some c → seen_all (struct_type fs NonNullable) (struct ms) k ps ≡ picked c (fs, ms)
  parts_are no_parts c h = ap (λ c. picked c (fs, ms)) (some_inj h)
  parts_are (part n e ps) c h = go (field_of e) (part_is e) (direct_parts ps) (parts_are ps) h
    where
      go : (o : Option Name) → ((f : Name) → o ≡ Some f → own e ≡ look f (fs, ms)) → (p : Option Choice) → ((c : Choice) → p ≡ Some c → seen_all (struct_type fs NonNullable) (struct ms) k ps ≡ picked c (fs, ms)) → chose n o p ≡ Some c
          → seen_part n (own e) (seen_all (struct_type fs NonNullable) (struct ms) k ps) ≡ picked c (fs, ms)
      go None f p g h = cc
      go (Some x) f None g h = cc
      go (Some x) f (Some d) g h = same_part n _ _ _ _ (f x refl) (g d refl) ∙ ap (λ c. picked c (fs, ms)) (some_inj h)

  at_is : (u : Unary) (c : Choice) → direct_at u ≡ Some c → own (unary u root) ≡ seen_pack NonNullable (picked c (fs, ms))
  at_is (GetItem n) c h = cc
  at_is (Select ns) c h = ap (seen_pack NonNullable) (taken_names ns (fs, ms) ∙ ap (λ c. picked c (fs, ms)) (some_inj h))
  at_is (Exclude ns) c h = cc
  at_is Not c h = cc
  at_is IsNull c h = cc
  at_is IsNotNull c h = cc
  at_is ListLength c h = cc

  pub direct_is : (e : Expr) (c : Choice) → Distinct fs → Even fs ms → direct fs e ≡ Some c → own e ≡ seen_pack NonNullable (picked c (fs, ms))
  direct_is root c d a h = ap (seen_pack NonNullable) (sym (taken-all fs ms d a) ∙ taken_names (field_names fs) (fs, ms) ∙ ap (λ c. picked c (fs, ms)) (some_inj h))
  direct_is row_index c d a h = cc
  direct_is (literal t m) c d a h = cc
  direct_is (unary u e) c d a h = go (is_root e) (is_root-sound e) h
    where
      go : (b : Bool) → (b ≡ true → e ≡ root) → cond b (direct_at u) None ≡ Some c → own (unary u e) ≡ seen_pack NonNullable (picked c (fs, ms))
      go true r h = ap (λ x. own (unary u x)) (r refl) ∙ at_is u c h
      go false r h = cc
  direct_is (binary b x y) c d a h = cc
  direct_is (pack ps NonNullable) c d a h = ap (seen_pack NonNullable) (parts_are ps c h)
  direct_is (pack ps Nullable) c d a h = cc
