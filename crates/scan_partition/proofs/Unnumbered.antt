-- No row's number stands in what is made of an expression without one.
use Rattle.std.proofs.Common.{◌≡◌, ℕ, ◌+◌, Bool, true, false, cond, ◌||◌, Option, Some, None, List, [], ◌∷◌, ◌++◌, map, refl, ap, sym, ◌∙◌}
use Rattle.scan_values.specs.DataType.{DataType, Name, nullability_of}
use Rattle.scan_values.specs.declared.ptype.Nullability.{Nullability}
use Rattle.scan_values.specs.declared.ptype.Nullability.TheVariants.{NonNullable, Nullable}
use Rattle.scan_values.specs.NameFaults.{field_names}
use Rattle.scan_expr.specs.Bound.{Bound}
use Rattle.scan_expr.specs.Infer.{struct_fields}
use Rattle.scan_expr.specs.Needs.{other_names}
use Rattle.scan_expr.specs.Expr.{is_root, Expr, root, row_index, literal, unary, binary, pack, Parts, no_parts, part, uses_row_index, any_uses_row_index}
use Rattle.scan_expr.specs.declared.op.Unary.{Unary}
use Rattle.scan_expr.specs.declared.op.Unary.TheVariants.{GetItem, Select, Exclude, Not, IsNull, IsNotNull, ListLength}
use Rattle.scan_partition.specs.declared.item.Item.{Item}
use Rattle.scan_partition.specs.Divided.{divided, kept, stepped, group_part}
use Rattle.scan_partition.specs.Expand.{masked, items_of, expanded_fields, null_root, here_root, expand_at, expand, expand_all}
use Rattle.scan_partition.specs.Items.{root_item, Use, no_use, one, many, use_of}
use Rattle.scan_partition.specs.Lists.{at_validity, rewrite_validity, rewrite_validity_all, at_offsets, rewrite_offsets, rewrite_offsets_all}
use Rattle.scan_partition.specs.Partition.{Cut, Group, or_root, step_into, step_into_all, cut_or, cuts, all_cuts, groups_of, numbered, part_of}
use Rattle.scan_partition.specs.Split.{split_by, split_by_items}
use Rattle.scan_partition.specs.Unnumbered.{AreUnnumbered, DividedUnnumbered, SplitUnnumbered}
use Rattle.scan_partition.proofs.Dividing.{CutsAll, all_append, SomeOf, AllOf, GroupsAll, collected_all}
use Rattle.scan_partition.proofs.Expanded.{is_root-sound}
use Rattle.scan_partition.proofs.RowFree.{neither, split, root_free}

-- ---- rewritings: as many row numbers as before
masked_free : (n : Nullability) (e : Expr) → uses_row_index e ≡ false → uses_row_index (masked n e) ≡ false
masked_free NonNullable e h = h
masked_free Nullable e h = neither (uses_row_index e) false h refl

items_free : (ns : List Name) → any_uses_row_index (items_of ns) ≡ false
items_free [] = refl
items_free (n ∷ ns) = items_free ns

fields_free : (n : Nullability) (ns : List Name) → uses_row_index (expanded_fields n ns) ≡ false
fields_free n ns = masked_free n (pack (items_of ns) NonNullable) (items_free ns)

null_free : (n : Nullability) → uses_row_index (null_root n) ≡ false
null_free NonNullable = refl
null_free Nullable = refl

here_free : (n : Nullability) → uses_row_index (here_root n) ≡ false
here_free NonNullable = refl
here_free Nullable = refl

at_free : (s : DataType) (u : Unary) → uses_row_index (expand_at s u) ≡ false
at_free s (GetItem n) = masked_free (nullability_of s) (unary (GetItem n) root) refl
at_free s (Select ns) = fields_free (nullability_of s) ns
at_free s (Exclude ns) = fields_free (nullability_of s) (other_names ns (struct_fields s))
at_free s Not = fields_free (nullability_of s) (field_names (struct_fields s))
at_free s IsNull = null_free (nullability_of s)
at_free s IsNotNull = here_free (nullability_of s)
at_free s ListLength = fields_free (nullability_of s) (field_names (struct_fields s))

mutual
  pub expand_numbers : (s : DataType) (e : Expr) → uses_row_index (expand s e) ≡ uses_row_index e
  expand_numbers s root = fields_free (nullability_of s) (field_names (struct_fields s))
  expand_numbers s row_index = refl
  expand_numbers s (literal d m) = refl
  expand_numbers s (unary u e) = go (is_root e) (is_root-sound e) (expand_numbers s e)
    where
      go : (b : Bool) → (b ≡ true → e ≡ root) → uses_row_index (expand s e) ≡ uses_row_index e → uses_row_index (cond b (expand_at s u) (unary u (expand s e))) ≡ uses_row_index e
      go true r h = at_free s u ∙ ap uses_row_index (sym (r refl))
      go false r h = h
  expand_numbers s (binary b x y) = λ i. expand_numbers s x i || expand_numbers s y i
  expand_numbers s (pack ps n) = all_expand_numbers s ps

  all_expand_numbers : (s : DataType) (ps : Parts) → any_uses_row_index (expand_all s ps) ≡ any_uses_row_index ps
  all_expand_numbers s no_parts = refl
  all_expand_numbers s (part n e ps) = λ i. expand_numbers s e i || all_expand_numbers s ps i

mutual
  pub step_numbers : (e : Expr) → uses_row_index (step_into e) ≡ uses_row_index e
  step_numbers root = refl
  step_numbers row_index = refl
  step_numbers (literal d m) = refl
  step_numbers (unary u e) = go (is_root e) (is_root-sound e) (root_item u) (step_numbers e)
    where
      go : (b : Bool) → (b ≡ true → e ≡ root) → (o : Option Item) → uses_row_index (step_into e) ≡ uses_row_index e → uses_row_index (or_root (cond b o None) (unary u (step_into e))) ≡ uses_row_index e
      go true r None h = h
      go true r (Some i) h = ap uses_row_index (sym (r refl))
      go false r o h = h
  step_numbers (binary b x y) = λ i. step_numbers x i || step_numbers y i
  step_numbers (pack ps n) = all_step_numbers ps

  all_step_numbers : (ps : Parts) → any_uses_row_index (step_into_all ps) ≡ any_uses_row_index ps
  all_step_numbers no_parts = refl
  all_step_numbers (part n e ps) = λ i. step_numbers e i || all_step_numbers ps i

at_validity_free : (u : Unary) → uses_row_index (at_validity u) ≡ false
at_validity_free (GetItem n) = refl
at_validity_free (Select ns) = refl
at_validity_free (Exclude ns) = refl
at_validity_free Not = refl
at_validity_free IsNull = refl
at_validity_free IsNotNull = refl
at_validity_free ListLength = refl

mutual
  pub validity_numbers : (e : Expr) → uses_row_index (rewrite_validity e) ≡ uses_row_index e
  validity_numbers root = refl
  validity_numbers row_index = refl
  validity_numbers (literal d m) = refl
  validity_numbers (unary u e) = go (is_root e) (is_root-sound e) (validity_numbers e)
    where
      go : (b : Bool) → (b ≡ true → e ≡ root) → uses_row_index (rewrite_validity e) ≡ uses_row_index e → uses_row_index (cond b (at_validity u) (unary u (rewrite_validity e))) ≡ uses_row_index e
      go true r h = at_validity_free u ∙ ap uses_row_index (sym (r refl))
      go false r h = h
  validity_numbers (binary b x y) = λ i. validity_numbers x i || validity_numbers y i
  validity_numbers (pack ps n) = all_validity_numbers ps

  all_validity_numbers : (ps : Parts) → any_uses_row_index (rewrite_validity_all ps) ≡ any_uses_row_index ps
  all_validity_numbers no_parts = refl
  all_validity_numbers (part n e ps) = λ i. validity_numbers e i || all_validity_numbers ps i

at_offsets_free : (u : Unary) → uses_row_index (at_offsets u) ≡ false
at_offsets_free (GetItem n) = refl
at_offsets_free (Select ns) = refl
at_offsets_free (Exclude ns) = refl
at_offsets_free Not = refl
at_offsets_free IsNull = refl
at_offsets_free IsNotNull = refl
at_offsets_free ListLength = refl

mutual
  pub length_numbers : (e : Expr) → uses_row_index (rewrite_offsets e) ≡ uses_row_index e
  length_numbers root = refl
  length_numbers row_index = refl
  length_numbers (literal d m) = refl
  length_numbers (unary u e) = go (is_root e) (is_root-sound e) (length_numbers e)
    where
      go : (b : Bool) → (b ≡ true → e ≡ root) → uses_row_index (rewrite_offsets e) ≡ uses_row_index e → uses_row_index (cond b (at_offsets u) (unary u (rewrite_offsets e))) ≡ uses_row_index e
      go true r h = at_offsets_free u ∙ ap uses_row_index (sym (r refl))
      go false r h = h
  length_numbers (binary b x y) = λ i. length_numbers x i || length_numbers y i
  length_numbers (pack ps n) = all_length_numbers ps

  all_length_numbers : (ps : Parts) → any_uses_row_index (rewrite_offsets_all ps) ≡ any_uses_row_index ps
  all_length_numbers no_parts = refl
  all_length_numbers (part n e ps) = λ i. length_numbers e i || all_length_numbers ps i

-- ---- the parts
abbrev FreeOk : Item → Expr → Type 0
FreeOk i e = uses_row_index e ≡ false

free_by : (w : Use) (e : Expr) (cs : List Cut) → uses_row_index e ≡ false → CutsAll FreeOk cs → CutsAll FreeOk (cut_or w e cs)
free_by no_use e cs f a = a
free_by (one i) e cs f a = (f, tt)
free_by many e cs f a = a

mutual
  cuts_free : (e : Expr) → uses_row_index e ≡ false → CutsAll FreeOk (cuts e)
  cuts_free root h = tt
  cuts_free row_index h = tt
  cuts_free (literal d m) h = tt
  cuts_free (unary u e) h = free_by (use_of (unary u e)) (unary u e) (cuts e) h (cuts_free e h)
  cuts_free (binary b x y) h = let a = split (uses_row_index x) (uses_row_index y) h in free_by (use_of (binary b x y)) (binary b x y) (cuts x ++ cuts y) h (all_append FreeOk (cuts x) (cuts y) (cuts_free x a.0) (cuts_free y a.1))
  cuts_free (pack ps n) h = free_by (use_of (pack ps n)) (pack ps n) (all_cuts ps) h (all_cuts_free ps h)

  all_cuts_free : (ps : Parts) → any_uses_row_index ps ≡ false → CutsAll FreeOk (all_cuts ps)
  all_cuts_free no_parts h = tt
  all_cuts_free (part n e ps) h = let a = split (uses_row_index e) (any_uses_row_index ps) h in all_append FreeOk (cuts e) (all_cuts ps) (cuts_free e a.0) (all_cuts_free ps a.1)

numbered_free : (i : Item) (k : ℕ) (es : List Expr) → AllOf FreeOk i es → any_uses_row_index (numbered k es) ≡ false
numbered_free i k [] a = refl
numbered_free i k (e ∷ es) a = neither (uses_row_index e) (any_uses_row_index (numbered (k + 1) es)) a.0 (numbered_free i (k + 1) es a.1)

part_free : (i : Item) (es : List Expr) → SomeOf FreeOk i es → uses_row_index (part_of es) ≡ false
part_free i [] a = absurd a
part_free i (e ∷ []) a = a.0
part_free i (e ∷ f ∷ es) a = numbered_free i 0 (e ∷ f ∷ es) a

groups_free : (b : Item → Expr → Bound) → ((i : Item) (e : Expr) → uses_row_index (b i e).expr ≡ uses_row_index e) → (gs : List Group) → GroupsAll FreeOk gs → AreUnnumbered (map (group_part b) gs)
groups_free b f [] a = tt
groups_free b f (g ∷ gs) a = (f g.0 (part_of g.1) ∙ part_free g.0 g.1 a.0, groups_free b f gs a.1)

pub divided_free : (b : Item → Expr → Bound) → ((i : Item) (e : Expr) → uses_row_index (b i e).expr ≡ uses_row_index e) → (e : Expr) → uses_row_index e ≡ false → DividedUnnumbered (divided b e)
divided_free b f e h = (groups_free b f (groups_of (cuts e)) (collected_all FreeOk [] (cuts e) tt (cuts_free e h)), root_free (cuts e) [] e h)

pub kept_free : (s : DataType) (e : Expr) → uses_row_index e ≡ false → DividedUnnumbered (divided (kept s) e)
kept_free s e h = divided_free (kept s) (λ i x. refl) e h

pub stepped_free : (s : DataType) (e : Expr) → uses_row_index e ≡ false → DividedUnnumbered (divided (stepped s) e)
stepped_free s e h = divided_free (stepped s) (λ i x. step_numbers x) e h

pub split_free : (s : DataType) (e : Expr) → uses_row_index e ≡ false → SplitUnnumbered (split_by_items s (expand s e))
split_free s e h = go (use_of (expand s e))
  where
    none : uses_row_index (expand s e) ≡ false
    none = expand_numbers s e ∙ h

    go : (w : Use) → SplitUnnumbered (split_by w s (expand s e))
    go no_use = stepped_free s (expand s e) none
    go (one i) = step_numbers (expand s e) ∙ none
    go many = stepped_free s (expand s e) none
