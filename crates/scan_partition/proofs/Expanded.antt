-- Expansion, through the items.
use Rattle.std.proofs.Common.{◌≡◌, ℕ, ◌<◌, ◌^◌, length, Bool, true, false, cond, ◌||◌, List, [], ◌∷◌, Option, Some, None, refl, ap, sym, subst, ◌∙◌, bytes_eq}
use Rattle.std.proofs.lemmas.Slice.Eq.{bytes_eq-Decides}
use Rattle.scan_partition.proofs.Names.{false_if, bytes_eq-refl}
use Rattle.scan_partition.proofs.Parted.{look_here, look_past, with_own, whole, partition_seen}
use Rattle.scan_values.specs.DataType.{DataType, bool_type, struct_type, Fields, no_fields, field, Name, nullability_of}
use Rattle.scan_values.specs.declared.ptype.Nullability.{Nullability}
use Rattle.scan_values.specs.declared.ptype.Nullability.TheVariants.{NonNullable, Nullable}
use Rattle.scan_expr.specs.Infer.{field_type, struct_fields, chosen, without}
use Rattle.scan_values.specs.NameFaults.{field_names, has_name}
use Rattle.scan_values.specs.Marked.{Marked, lost, null, struct, Markeds, none, more}
use Rattle.scan_expr.specs.Eval.{pick, pick_all, leave}
use Rattle.scan_partition.specs.declared.item.Item.{Item}
use Rattle.scan_partition.specs.declared.item.Item.TheVariants.{Field}
use Rattle.scan_partition.specs.Items.{item_of, root_item, ItemOr, IsExpanded, AreExpanded}
use Rattle.scan_expr.specs.Expr.{is_root, Expr, root, row_index, literal, unary, binary, pack, Parts, no_parts, part}
use Rattle.scan_partition.specs.Expand.{masked, items_of, expanded_fields, expanded_struct_root, null_root, here_root, expand_at, expand, expand_all}
use Rattle.scan_expr.specs.Needs.{other_names}
use Rattle.scan_partition.specs.Partition.{Reads, cuts, root_of}
use Rattle.scan_expr.specs.declared.op.Unary.{Unary}
use Rattle.scan_expr.specs.declared.op.Unary.TheVariants.{GetItem, Select, Exclude, Not, IsNull, IsNotNull, ListLength}
use Rattle.scan_expr.specs.declared.op.Binary.TheVariants.{Mask}
use Rattle.scan_partition.specs.Rows.{Distinct, Even, IsRow, Agrees, item_type, AllPlain}
use Rattle.scan_partition.proofs.Through.{Seen, SeenAll, seen, seen_all, seen_unary, seen_binary, seen_pack, seen_part, same_binary, same_part, or_read, through, through_all}

-- ---- expanded expressions speak of items alone
masked-expanded : (n : Nullability) (e : Expr) → IsExpanded e → IsExpanded (masked n e)
masked-expanded NonNullable e p = p
masked-expanded Nullable e p = (p, tt)

items-expanded : (ns : List Name) → AreExpanded (items_of ns)
items-expanded [] = tt
items-expanded (n ∷ ns) = (tt, items-expanded ns)

fields-expanded : (n : Nullability) (ns : List Name) → IsExpanded (expanded_fields n ns)
fields-expanded n ns = masked-expanded n (pack (items_of ns) NonNullable) (items-expanded ns)

pub under-expanded : (u : Unary) (e : Expr) → IsExpanded e → IsExpanded (unary u e)
under-expanded u e p = go (item_of u e)
  where
    go : (o : Option Item) → ItemOr o (IsExpanded e)
    go None = p
    go (Some i) = tt

null_root-expanded : (n : Nullability) → IsExpanded (null_root n)
null_root-expanded NonNullable = tt
null_root-expanded Nullable = tt

here_root-expanded : (n : Nullability) → IsExpanded (here_root n)
here_root-expanded NonNullable = tt
here_root-expanded Nullable = tt

expand_at-expanded : (s : DataType) (u : Unary) → IsExpanded (expand_at s u)
expand_at-expanded s (GetItem n) = masked-expanded (nullability_of s) (unary (GetItem n) root) tt
expand_at-expanded s (Select ns) = fields-expanded (nullability_of s) ns
expand_at-expanded s (Exclude ns) = fields-expanded (nullability_of s) (other_names ns (struct_fields s))
expand_at-expanded s Not = under-expanded Not (expanded_struct_root s) (fields-expanded (nullability_of s) (field_names (struct_fields s)))
expand_at-expanded s IsNull = null_root-expanded (nullability_of s)
expand_at-expanded s IsNotNull = here_root-expanded (nullability_of s)
expand_at-expanded s ListLength = under-expanded ListLength (expanded_struct_root s) (fields-expanded (nullability_of s) (field_names (struct_fields s)))

mutual
  pub expand-expanded : (s : DataType) (e : Expr) → IsExpanded (expand s e)
  expand-expanded s root = fields-expanded (nullability_of s) (field_names (struct_fields s))
  expand-expanded s row_index = tt
  expand-expanded s (literal d m) = tt
  expand-expanded s (unary u e) = go (is_root e) (expand-expanded s e)
    where
      go : (b : Bool) → IsExpanded (expand s e) → IsExpanded (cond b (expand_at s u) (unary u (expand s e)))
      go true p = expand_at-expanded s u
      go false p = under-expanded u (expand s e) p
  expand-expanded s (binary b x y) = (expand-expanded s x, expand-expanded s y)
  expand-expanded s (pack ps n) = expand_all-expanded s ps

  pub expand_all-expanded : (s : DataType) (ps : Parts) → AreExpanded (expand_all s ps)
  expand_all-expanded s no_parts = tt
  expand_all-expanded s (part n e ps) = (expand-expanded s e, expand_all-expanded s ps)

pub not_root : (e : Expr) → IsExpanded e → is_root e ≡ false
not_root root p = absurd p
not_root row_index p = refl
not_root (literal d m) p = refl
not_root (unary u e) p = refl
not_root (binary b x y) p = refl
not_root (pack ps n) p = refl

pub is_root-sound : (e : Expr) → is_root e ≡ true → e ≡ root
is_root-sound root h = refl
is_root-sound row_index h = cc
is_root-sound (literal d m) h = cc
is_root-sound (unary u e) h = cc
is_root-sound (binary b x y) h = cc
is_root-sound (pack ps n) h = cc

pub through-under : (r : Reads) (k : ℕ) (u : Unary) (e : Expr) → IsExpanded e → through r k (unary u e) ≡ seen_unary u (through r k e)
through-under r k u e p = ap (λ b. or_read r (cond b (root_item u) None) (seen_unary u (through r k e))) (not_root e p)

-- ---- the fields of these names
abbrev pub taken : List Name → SeenAll → SeenAll
taken ns x = (chosen ns x.0, pick_all ns x.0 x.1)

bytes_eq-sym : (n m : Name) → bytes_eq n m ≡ false → bytes_eq m n ≡ false
bytes_eq-sym n m h = false_if (bytes_eq m n) (λ e. clash (sym (subst (λ x. bytes_eq x m ≡ true) ((bytes_eq-Decides m n).0 e) (bytes_eq-refl m)) ∙ h))
  where
    clash : true ≡ false → ⊥
    clash q = cc

or_false : (a b : Bool) → a || b ≡ false → (a ≡ false) × (b ≡ false)
or_false true b h = absurd (clash h)
  where
    clash : true ≡ false → ⊥
    clash q = cc
or_false false b h = (refl, h)

taken-past : (m : Name) (y : Seen) (z : SeenAll) (ns : List Name) → has_name m ns ≡ false → taken ns (seen_part m y z) ≡ taken ns z
taken-past m y z [] h = refl
taken-past m y z (n ∷ ns) h =
    let hs = or_false (bytes_eq m n) (has_name m ns) h in
    same_part n _ _ _ _ (look_past n m y z (bytes_eq-sym m n hs.0)) (taken-past m y z ns hs.1)

others-lack : (m : Name) (ns : List Name) (fs : Fields) → has_name m (field_names fs) ≡ false → has_name m (other_names ns fs) ≡ false
others-lack m ns no_fields h = refl
others-lack m ns (field n d fs) h = go (has_name n ns) (or_false (bytes_eq m n) (has_name m (field_names fs)) h).0 (others-lack m ns fs (or_false (bytes_eq m n) (has_name m (field_names fs)) h).1)
  where
    go : (b : Bool) → bytes_eq m n ≡ false → has_name m (other_names ns fs) ≡ false → has_name m (cond b (other_names ns fs) (n ∷ other_names ns fs)) ≡ false
    go true p q = q
    go false p q = ap (λ b. b || has_name m (other_names ns fs)) p ∙ q

taken-others : (ns : List Name) (fs : Fields) (ms : Markeds) → Distinct fs → Even fs ms → taken (other_names ns fs) (fs, ms) ≡ (without ns fs, leave ns fs ms)
taken-others ns no_fields none d e = refl
taken-others ns no_fields (more m ms) d e = absurd e
taken-others ns (field n t fs) none d e = absurd e
taken-others ns (field n t fs) (more m ms) d e =
    go (has_name n ns) (taken-past n (t, m) (fs, ms) (other_names ns fs) (others-lack n ns fs d.0) ∙ taken-others ns fs ms d.1 e)
  where
    go : (b : Bool) → taken (other_names ns fs) (field n t fs, more m ms) ≡ (without ns fs, leave ns fs ms)
        → taken (cond b (other_names ns fs) (n ∷ other_names ns fs)) (field n t fs, more m ms) ≡ (cond b (without ns fs) (field n t (without ns fs)), cond b (leave ns fs ms) (more m (leave ns fs ms)))
    go true h = h
    go false h = same_part n _ _ _ _ (look_here n n (t, m) (fs, ms) (bytes_eq-refl n)) h

pub taken-all : (fs : Fields) (ms : Markeds) → Distinct fs → Even fs ms → taken (field_names fs) (fs, ms) ≡ (fs, ms)
taken-all no_fields none d e = refl
taken-all no_fields (more m ms) d e = absurd e
taken-all (field n t fs) none d e = absurd e
taken-all (field n t fs) (more m ms) d e =
    same_part n _ _ _ _ (look_here n n (t, m) (fs, ms) (bytes_eq-refl n)) (taken-past n (t, m) (fs, ms) (field_names fs) d.0 ∙ taken-all fs ms d.1 e)

pub blank : Fields → Markeds
blank no_fields = none
blank (field n d fs) = more null (blank fs)

pub blank-even : (fs : Fields) → Even fs (blank fs)
unfolding blank
blank-even no_fields = tt
blank-even (field n d fs) = blank-even fs

-- ---- a struct by its fields
pub root_fields : (fs : Fields) (n : Nullability) (v : Marked) → Distinct fs → IsRow fs n v → seen_unary (Select (field_names fs)) (struct_type fs n, v) ≡ (struct_type fs n, v)
root_fields fs n (struct ms) d a = λ i. (struct_type (taken-all fs ms d a i).0 n, struct (taken-all fs ms d a i).1)
root_fields fs Nullable null d a = λ i. (struct_type (taken-all fs (blank fs) d (blank-even fs) i).0 Nullable, null)
root_fields fs Nullable lost d a = λ i. (struct_type (taken-all fs (blank fs) d (blank-even fs) i).0 Nullable, lost)
root_fields fs n v d a = absurd a

pub others_fields : (fs : Fields) (ns : List Name) (n : Nullability) (v : Marked) → Distinct fs → IsRow fs n v → seen_unary (Select (other_names ns fs)) (struct_type fs n, v) ≡ seen_unary (Exclude ns) (struct_type fs n, v)
others_fields fs ns n (struct ms) d a = λ i. (struct_type (taken-others ns fs ms d a i).0 n, struct (taken-others ns fs ms d a i).1)
others_fields fs ns Nullable null d a = λ i. (struct_type (taken-others ns fs (blank fs) d (blank-even fs) i).0 Nullable, null)
others_fields fs ns Nullable lost d a = λ i. (struct_type (taken-others ns fs (blank fs) d (blank-even fs) i).0 Nullable, lost)
others_fields fs ns n v d a = absurd a

-- ---- what the items are, for a value of the struct
module _ (fs : Fields) (w : Item → Marked) (k : ℕ) where
  abbrev reads : Reads
  reads i = (item_type fs i, w i)

  abbrev item_values : List Name → Markeds
  item_values [] = none
  item_values (n ∷ ns) = more (w (Field n)) (item_values ns)

  items_seen : (ns : List Name) → through_all reads k (items_of ns) ≡ (chosen ns fs, item_values ns)
  items_seen [] = refl
  items_seen (n ∷ ns) = ap (seen_part n (field_type n fs, w (Field n))) (items_seen ns)

  values_here : (ms : Markeds) (ns : List Name) → ((f : Name) → w (Field f) ≡ pick f fs ms) → item_values ns ≡ pick_all ns fs ms
  values_here ms [] h = refl
  values_here ms (n ∷ ns) h = λ i. more (h n i) (values_here ms ns h i)

  here_seen : (ms : Markeds) (ns : List Name) → ((f : Name) → w (Field f) ≡ pick f fs ms) → through_all reads k (items_of ns) ≡ (chosen ns fs, pick_all ns fs ms)
  here_seen ms ns h = items_seen ns ∙ ap (λ x. (chosen ns fs, x)) (values_here ms ns h)

  abbrev masked_by : Seen → Marked → Seen
  masked_by x m = seen_binary Mask x (bool_type NonNullable, m)

  fields_seen : (n : Nullability) (v : Marked) (ns : List Name) → IsRow fs n v → Agrees fs v w → through reads k (expanded_fields n ns) ≡ seen_unary (Select ns) (struct_type fs n, v)
  fields_seen NonNullable (struct ms) ns a g = ap (seen_pack NonNullable) (here_seen ms ns g.fields)
  fields_seen Nullable (struct ms) ns a g = λ i. masked_by (seen_pack NonNullable (here_seen ms ns g.fields i)) (g.here i)
  fields_seen Nullable null ns a g = λ i. masked_by (seen_pack NonNullable (items_seen ns i)) (g.here i)
  fields_seen Nullable lost ns a g = λ i. masked_by (seen_pack NonNullable (items_seen ns i)) (g.here i)
  fields_seen n v ns a g = absurd a

  get_seen : (f : Name) (n : Nullability) (v : Marked) → IsRow fs n v → Agrees fs v w → through reads k (masked n (unary (GetItem f) root)) ≡ seen_unary (GetItem f) (struct_type fs n, v)
  get_seen f NonNullable (struct ms) a g = λ i. (sym (with_own (field_type f fs)) i, g.fields f i)
  get_seen f Nullable (struct ms) a g = λ i. masked_by (field_type f fs, g.fields f i) (g.here i)
  get_seen f Nullable null a g = λ i. masked_by (field_type f fs, w (Field f)) (g.here i)
  get_seen f Nullable lost a g = λ i. masked_by (field_type f fs, w (Field f)) (g.here i)
  get_seen f n v a g = absurd a

  null_seen : (n : Nullability) (v : Marked) → IsRow fs n v → Agrees fs v w → through reads k (null_root n) ≡ seen_unary IsNull (struct_type fs n, v)
  null_seen NonNullable v a g = refl
  null_seen Nullable (struct ms) a g = λ i. seen_unary Not (bool_type NonNullable, g.here i)
  null_seen Nullable null a g = λ i. seen_unary Not (bool_type NonNullable, g.here i)
  null_seen Nullable lost a g = λ i. seen_unary Not (bool_type NonNullable, g.here i)
  null_seen Nullable v a g = absurd a

  not_null_seen : (n : Nullability) (v : Marked) → Agrees fs v w → through reads k (here_root n) ≡ seen_unary IsNotNull (struct_type fs n, v)
  not_null_seen NonNullable v g = refl
  not_null_seen Nullable v g = λ i. (bool_type NonNullable, g.here i)

  module _ (n : Nullability) (v : Marked) (d : Distinct fs) (a : IsRow fs n v) (g : Agrees fs v w) where
    root_seen : through reads k (expanded_struct_root (struct_type fs n)) ≡ (struct_type fs n, v)
    root_seen = fields_seen n v (field_names fs) a g ∙ root_fields fs n v d a

    at_root : (u : Unary) → through reads k (expand_at (struct_type fs n) u) ≡ seen_unary u (struct_type fs n, v)
    at_root (GetItem f) = get_seen f n v a g
    at_root (Select ns) = fields_seen n v ns a g
    at_root (Exclude ns) = fields_seen n v (other_names ns fs) a g ∙ others_fields fs ns n v d a
    at_root Not = through-under reads k Not (expanded_struct_root (struct_type fs n)) (fields-expanded n (field_names fs)) ∙ ap (seen_unary Not) root_seen
    at_root IsNull = null_seen n v a g
    at_root IsNotNull = not_null_seen n v g
    at_root ListLength = through-under reads k ListLength (expanded_struct_root (struct_type fs n)) (fields-expanded n (field_names fs)) ∙ ap (seen_unary ListLength) root_seen

    mutual
      -- through the items, the expanded expression has the dtype and the value of its source
      pub expand_seen : (e : Expr) → through reads k (expand (struct_type fs n) e) ≡ seen (struct_type fs n) v k e
      expand_seen root = root_seen
      expand_seen row_index = refl
      expand_seen (literal t m) = refl
      expand_seen (unary u e) = go (is_root e) (is_root-sound e) (expand_seen e)
        where
          go : (b : Bool) → (b ≡ true → e ≡ root) → through reads k (expand (struct_type fs n) e) ≡ seen (struct_type fs n) v k e
              → through reads k (cond b (expand_at (struct_type fs n) u) (unary u (expand (struct_type fs n) e))) ≡ seen_unary u (seen (struct_type fs n) v k e)
          go true h p = at_root u ∙ ap (λ x. seen_unary u (seen (struct_type fs n) v k x)) (sym (h refl))
          go false h p = through-under reads k u (expand (struct_type fs n) e) (expand-expanded (struct_type fs n) e) ∙ ap (seen_unary u) p
      expand_seen (binary b x y) = same_binary b _ _ _ _ (expand_seen x) (expand_seen y)
      expand_seen (pack ps m) = ap (seen_pack m) (expand_all_seen ps)

      pub expand_all_seen : (ps : Parts) → through_all reads k (expand_all (struct_type fs n) ps) ≡ seen_all (struct_type fs n) v k ps
      expand_all_seen no_parts = refl
      expand_all_seen (part m e ps) = same_part m _ _ _ _ (expand_seen e) (expand_all_seen ps)

-- what partitioning an expanded expression, stepping in and joining gives
abbrev pub joined_seen : Fields → (Item → Marked) → ℕ → Expr → Seen
joined_seen fs w k e =
    let r : Reads = λ i. (item_type fs i, w i) in
    seen (whole r k (cuts e)).0 (whole r k (cuts e)).1 k (root_of (cuts e) [] e)

pub struct_partition : (fs : Fields) (n : Nullability) (e : Expr) (v : Marked) (w : Item → Marked) (k : ℕ) → Distinct fs → IsRow fs n v → Agrees fs v w
    → AllPlain (cuts (expand (struct_type fs n) e)) → length (cuts (expand (struct_type fs n) e)) < 2 ^ 64 → joined_seen fs w k (expand (struct_type fs n) e) ≡ seen (struct_type fs n) v k e
struct_partition fs n e v w k d a g plain few =
    partition_seen (λ i. (item_type fs i, w i)) k (expand (struct_type fs n) e) (expand-expanded (struct_type fs n) e) plain few ∙ expand_seen fs w k n v d a g e
