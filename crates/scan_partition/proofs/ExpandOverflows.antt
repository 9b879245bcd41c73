-- Expanded, and over a list's validity or lengths, an expression overflows where its source does.
use Rattle.std.proofs.Common.{◌≡◌, ℕ, Bool, true, false, cond, ◌||◌, List, [], ◌∷◌, refl, ap, sym, ◌∙◌}
use Rattle.scan_values.specs.DataType.{DataType, bool_type, struct_type, Fields, Name, nullability_of}
use Rattle.scan_values.specs.NameFaults.{field_names}
use Rattle.scan_values.specs.Marked.{Marked}
use Rattle.scan_values.specs.declared.ptype.Nullability.{Nullability}
use Rattle.scan_values.specs.declared.ptype.Nullability.TheVariants.{NonNullable, Nullable}
use Rattle.scan_expr.specs.declared.op.Unary.{Unary}
use Rattle.scan_expr.specs.declared.op.Unary.TheVariants.{GetItem, Select, Exclude, Not, IsNull, IsNotNull, ListLength}
use Rattle.scan_expr.specs.Infer.{struct_fields}
use Rattle.scan_expr.specs.declared.op.Binary.{Binary}
use Rattle.scan_expr.specs.declared.op.Binary.TheVariants.{Mask, And, Or, Equal, NotEqual, Less, LessOrEqual, Greater, GreaterOrEqual, CheckedAdd, CheckedSub}
use Rattle.scan_expr.specs.Needs.{other_names}
use Rattle.scan_expr.specs.Expr.{is_root, Expr, root, row_index, literal, unary, binary, pack, Parts, no_parts, part}
use Rattle.scan_partition.specs.declared.item.Item.{Item}
use Rattle.scan_partition.specs.Partition.{Reads}
use Rattle.scan_partition.specs.Rows.{item_type, Distinct, IsRow, Agrees}
use Rattle.scan_partition.specs.Expand.{is_here, items_of, masked, expanded_fields, null_root, here_root, expand_at, expand, expand_all}
use Rattle.scan_partition.specs.Lists.{IsClass, IsListRow, necessary, all_necessary, children_at, at_validity, rewrite_validity, rewrite_validity_all, at_offsets, rewrite_offsets, rewrite_offsets_all}
use Rattle.scan_partition.specs.declared.list_.ListChildrenNeeded.TheVariants.{Validity, OffsetsAndValidity}
use Rattle.scan_expr.specs.Eval.{integer_of}
use Rattle.scan_expr.specs.Overflow.{outside, overflows, any_overflows}
use Rattle.scan_partition.proofs.Pushed.{Like, like_sum, expand_like}
use Rattle.scan_partition.proofs.Expanded.{expand_seen, is_root-sound}
use Rattle.scan_partition.proofs.Classes.{class-split, here_of, lengths, rewrite_validity_seen, rewrite_offsets_seen}
use Rattle.scan_partition.proofs.Through.{Seen, seen, through}
use Rattle.scan_partition.proofs.PartOverflows.{seen_overflows, through_overflows, any_through_overflows}

-- ---- expansion
abbrev pub item_reads : Fields → (Item → Marked) → Reads
item_reads fs w i = (item_type fs i, w i)

module _ (fs : Fields) (w : Item → Marked) (k : ℕ) where
  abbrev flag : Expr → Bool
  flag e = through_overflows (item_reads fs w) k e

  items_calm : (ns : List Name) → any_through_overflows (item_reads fs w) k (items_of ns) ≡ false
  items_calm [] = refl
  items_calm (n ∷ ns) = items_calm ns

  seen_calm : (x y : Seen) → seen_overflows Mask x y ≡ false
  seen_calm x y = refl

  masked_calm : (n : Nullability) (e : Expr) → flag e ≡ false → flag (masked n e) ≡ false
  masked_calm NonNullable e h = h
  masked_calm Nullable e h = (λ j. h j || seen_overflows Mask (through (item_reads fs w) k e) (through (item_reads fs w) k is_here)) ∙ seen_calm (through (item_reads fs w) k e) (through (item_reads fs w) k is_here)

  fields_calm : (n : Nullability) (ns : List Name) → flag (expanded_fields n ns) ≡ false
  fields_calm n ns = masked_calm n (pack (items_of ns) NonNullable) (items_calm ns)

  null_calm : (n : Nullability) → flag (null_root n) ≡ false
  null_calm NonNullable = refl
  null_calm Nullable = refl

  here_calm : (n : Nullability) → flag (here_root n) ≡ false
  here_calm NonNullable = refl
  here_calm Nullable = refl

  at_calm : (n : Nullability) (u : Unary) → flag (expand_at (struct_type fs n) u) ≡ false
  at_calm n (GetItem f) = masked_calm n (unary (GetItem f) root) refl
  at_calm n (Select ns) = fields_calm n ns
  at_calm n (Exclude ns) = fields_calm n (other_names ns fs)
  at_calm n Not = fields_calm n (field_names fs)
  at_calm n IsNull = null_calm n
  at_calm n IsNotNull = here_calm n
  at_calm n ListLength = fields_calm n (field_names fs)

  module _ (n : Nullability) (v : Marked) (d : Distinct fs) (a : IsRow fs n v) (g : Agrees fs v w) where
    mutual
      pub expand_overflows : (e : Expr) → flag (expand (struct_type fs n) e) ≡ overflows (struct_type fs n) e v k
      expand_overflows root = fields_calm n (field_names fs)
      expand_overflows row_index = refl
      expand_overflows (literal c m) = refl
      expand_overflows (unary u e) = go (is_root e) (is_root-sound e) (expand_overflows e)
        where
          go : (b : Bool) → (b ≡ true → e ≡ root) → flag (expand (struct_type fs n) e) ≡ overflows (struct_type fs n) e v k → flag (cond b (expand_at (struct_type fs n) u) (unary u (expand (struct_type fs n) e))) ≡ overflows (struct_type fs n) e v k
          go true h p = at_calm n u ∙ ap (λ x. overflows (struct_type fs n) x v k) (sym (h refl))
          go false h p = p
      expand_overflows (binary b x y) =
          let vx = expand_seen fs w k n v d a g x in
          let vy = expand_seen fs w k n v d a g y in
          let fx = expand_overflows x in
          let fy = expand_overflows y in
          λ j. fx j || (fy j || seen_overflows b (vx j) (vy j))
      expand_overflows (pack ps m) = expand_all_overflows ps

      expand_all_overflows : (ps : Parts) → any_through_overflows (item_reads fs w) k (expand_all (struct_type fs n) ps) ≡ any_overflows (struct_type fs n) ps v k
      expand_all_overflows no_parts = refl
      expand_all_overflows (part m e ps) =
          let fx = expand_overflows e in
          let fy = expand_all_overflows ps in
          λ j. fx j || fy j

-- ---- over the struct itself
spills_like : (b : Binary) (x y z w : Seen) → Like x y → Like z w → seen_overflows b x z ≡ seen_overflows b y w
spills_like Mask x y z w h g = refl
spills_like And x y z w h g = refl
spills_like Or x y z w h g = refl
spills_like Equal x y z w h g = refl
spills_like NotEqual x y z w h g = refl
spills_like Less x y z w h g = refl
spills_like LessOrEqual x y z w h g = refl
spills_like Greater x y z w h g = refl
spills_like GreaterOrEqual x y z w h g = refl
spills_like CheckedAdd x y z w h g = λ i. outside CheckedAdd (like_sum x y z w h g i) (integer_of (h.value i)) (integer_of (g.value i))
spills_like CheckedSub x y z w h g = λ i. outside CheckedSub (like_sum x y z w h g i) (integer_of (h.value i)) (integer_of (g.value i))

module _ (s : DataType) (v : Marked) (k : ℕ) where
  own_items_calm : (ns : List Name) → any_overflows s (items_of ns) v k ≡ false
  own_items_calm [] = refl
  own_items_calm (n ∷ ns) = own_items_calm ns

  own_masked_calm : (n : Nullability) (e : Expr) → overflows s e v k ≡ false → overflows s (masked n e) v k ≡ false
  own_masked_calm NonNullable e h = h
  own_masked_calm Nullable e h = λ j. h j || false

  own_fields_calm : (n : Nullability) (ns : List Name) → overflows s (expanded_fields n ns) v k ≡ false
  own_fields_calm n ns = own_masked_calm n (pack (items_of ns) NonNullable) (own_items_calm ns)

  own_null_calm : (n : Nullability) → overflows s (null_root n) v k ≡ false
  own_null_calm NonNullable = refl
  own_null_calm Nullable = refl

  own_here_calm : (n : Nullability) → overflows s (here_root n) v k ≡ false
  own_here_calm NonNullable = refl
  own_here_calm Nullable = refl

  own_at_calm : (u : Unary) → overflows s (expand_at s u) v k ≡ false
  own_at_calm (GetItem f) = own_masked_calm (nullability_of s) (unary (GetItem f) root) refl
  own_at_calm (Select ns) = own_fields_calm (nullability_of s) ns
  own_at_calm (Exclude ns) = own_fields_calm (nullability_of s) (other_names ns (struct_fields s))
  own_at_calm Not = own_fields_calm (nullability_of s) (field_names (struct_fields s))
  own_at_calm IsNull = own_null_calm (nullability_of s)
  own_at_calm IsNotNull = own_here_calm (nullability_of s)
  own_at_calm ListLength = own_fields_calm (nullability_of s) (field_names (struct_fields s))

module _ (fs : Fields) (n : Nullability) (v : Marked) (k : ℕ) (d : Distinct fs) (a : IsRow fs n v) where
  mutual
    pub expanded_overflows : (e : Expr) → overflows (struct_type fs n) (expand (struct_type fs n) e) v k ≡ overflows (struct_type fs n) e v k
    expanded_overflows root = own_fields_calm (struct_type fs n) v k n (field_names fs)
    expanded_overflows row_index = refl
    expanded_overflows (literal c m) = refl
    expanded_overflows (unary u e) = go (is_root e) (is_root-sound e) (expanded_overflows e)
      where
        go : (b : Bool) → (b ≡ true → e ≡ root) → overflows (struct_type fs n) (expand (struct_type fs n) e) v k ≡ overflows (struct_type fs n) e v k
            → overflows (struct_type fs n) (cond b (expand_at (struct_type fs n) u) (unary u (expand (struct_type fs n) e))) v k ≡ overflows (struct_type fs n) e v k
        go true h p = own_at_calm (struct_type fs n) v k u ∙ ap (λ x. overflows (struct_type fs n) x v k) (sym (h refl))
        go false h p = p
    expanded_overflows (binary b x y) =
        let fx = expanded_overflows x in
        let fy = expanded_overflows y in
        let here = spills_like b (seen (struct_type fs n) v k (expand (struct_type fs n) x)) (seen (struct_type fs n) v k x) (seen (struct_type fs n) v k (expand (struct_type fs n) y)) (seen (struct_type fs n) v k y) (expand_like fs n v k d a x) (expand_like fs n v k d a y) in
        λ j. fx j || (fy j || here j)
    expanded_overflows (pack ps m) = all_expanded_overflow ps

    all_expanded_overflow : (ps : Parts) → any_overflows (struct_type fs n) (expand_all (struct_type fs n) ps) v k ≡ any_overflows (struct_type fs n) ps v k
    all_expanded_overflow no_parts = refl
    all_expanded_overflow (part m e ps) =
        let fx = expanded_overflows e in
        let fy = all_expanded_overflow ps in
        λ j. fx j || fy j

-- ---- lists
module _ (s : DataType) (v : Marked) (k : ℕ) where
  at_validity_calm : (d : DataType) (m : Marked) (u : Unary) → overflows d (at_validity u) m k ≡ false
  at_validity_calm d m (GetItem n) = refl
  at_validity_calm d m (Select ns) = refl
  at_validity_calm d m (Exclude ns) = refl
  at_validity_calm d m Not = refl
  at_validity_calm d m IsNull = refl
  at_validity_calm d m IsNotNull = refl
  at_validity_calm d m ListLength = refl

  at_offsets_calm : (d : DataType) (m : Marked) (u : Unary) → overflows d (at_offsets u) m k ≡ false
  at_offsets_calm d m (GetItem n) = refl
  at_offsets_calm d m (Select ns) = refl
  at_offsets_calm d m (Exclude ns) = refl
  at_offsets_calm d m Not = refl
  at_offsets_calm d m IsNull = refl
  at_offsets_calm d m IsNotNull = refl
  at_offsets_calm d m ListLength = refl

  mutual
    pub validity_overflows : (e : Expr) → IsClass Validity (necessary e) → overflows (bool_type NonNullable) (rewrite_validity e) (here_of s v) k ≡ overflows s e v k
    validity_overflows root h = absurd h
    validity_overflows row_index h = refl
    validity_overflows (literal d m) h = refl
    validity_overflows (unary u e) h = go (is_root e) (is_root-sound e) h (validity_overflows e)
      where
        go : (b : Bool) → (b ≡ true → e ≡ root) → IsClass Validity (cond b (children_at u) (necessary e)) → (IsClass Validity (necessary e) → overflows (bool_type NonNullable) (rewrite_validity e) (here_of s v) k ≡ overflows s e v k)
            → overflows (bool_type NonNullable) (cond b (at_validity u) (unary u (rewrite_validity e))) (here_of s v) k ≡ overflows s e v k
        go true r h f = at_validity_calm (bool_type NonNullable) (here_of s v) u ∙ ap (λ x. overflows s x v k) (sym (r refl))
        go false r h f = f h
    validity_overflows (binary b x y) h =
        let hs = class-split Validity (necessary x) (necessary y) h in
        let vx = rewrite_validity_seen s v k x hs.0 in
        let vy = rewrite_validity_seen s v k y hs.1 in
        let fx = validity_overflows x hs.0 in
        let fy = validity_overflows y hs.1 in
        λ j. fx j || (fy j || seen_overflows b (vx j) (vy j))
    validity_overflows (pack ps n) h = all_validity_overflows ps h

    all_validity_overflows : (ps : Parts) → IsClass Validity (all_necessary ps) → any_overflows (bool_type NonNullable) (rewrite_validity_all ps) (here_of s v) k ≡ any_overflows s ps v k
    all_validity_overflows no_parts h = refl
    all_validity_overflows (part n e ps) h =
        let hs = class-split Validity (necessary e) (all_necessary ps) h in
        let fx = validity_overflows e hs.0 in
        let fy = all_validity_overflows ps hs.1 in
        λ j. fx j || fy j

  module _ (row : IsListRow (nullability_of s) v) where
    mutual
      pub offsets_overflows : (e : Expr) → IsClass OffsetsAndValidity (necessary e) → overflows (lengths s v k).0 (rewrite_offsets e) (lengths s v k).1 k ≡ overflows s e v k
      offsets_overflows root h = absurd h
      offsets_overflows row_index h = refl
      offsets_overflows (literal d m) h = refl
      offsets_overflows (unary u e) h = go (is_root e) (is_root-sound e) h (offsets_overflows e)
        where
          go : (b : Bool) → (b ≡ true → e ≡ root) → IsClass OffsetsAndValidity (cond b (children_at u) (necessary e)) → (IsClass OffsetsAndValidity (necessary e) → overflows (lengths s v k).0 (rewrite_offsets e) (lengths s v k).1 k ≡ overflows s e v k)
              → overflows (lengths s v k).0 (cond b (at_offsets u) (unary u (rewrite_offsets e))) (lengths s v k).1 k ≡ overflows s e v k
          go true r h f = at_offsets_calm (lengths s v k).0 (lengths s v k).1 u ∙ ap (λ x. overflows s x v k) (sym (r refl))
          go false r h f = f h
      offsets_overflows (binary b x y) h =
          let hs = class-split OffsetsAndValidity (necessary x) (necessary y) h in
          let vx = rewrite_offsets_seen s v k row x hs.0 in
          let vy = rewrite_offsets_seen s v k row y hs.1 in
          let fx = offsets_overflows x hs.0 in
          let fy = offsets_overflows y hs.1 in
          λ j. fx j || (fy j || seen_overflows b (vx j) (vy j))
      offsets_overflows (pack ps n) h = all_offsets_overflows ps h

      all_offsets_overflows : (ps : Parts) → IsClass OffsetsAndValidity (all_necessary ps) → any_overflows (lengths s v k).0 (rewrite_offsets_all ps) (lengths s v k).1 k ≡ any_overflows s ps v k
      all_offsets_overflows no_parts h = refl
      all_offsets_overflows (part n e ps) h =
          let hs = class-split OffsetsAndValidity (necessary e) (all_necessary ps) h in
          let fx = offsets_overflows e hs.0 in
          let fy = all_offsets_overflows ps hs.1 in
          λ j. fx j || fy j
