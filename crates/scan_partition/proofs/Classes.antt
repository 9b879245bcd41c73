-- Rewriting a list's expression keeps its value.
use Rattle.std.proofs.Common.{◌≡◌, ℕ, Bool, true, false, cond, not, refl, ap, sym, ◌∙◌}
use Rattle.scan_values.specs.DataType.{DataType, bool_type, int_type, nullability_of, is_nullable, is_null_kind}
use Rattle.scan_values.specs.declared.ptype.PType.TheVariants.{U64}
use Rattle.scan_values.specs.declared.ptype.Nullability.TheVariants.{NonNullable, Nullable}
use Rattle.scan_values.specs.declared.ptype.Nullability.{Nullability}
use Rattle.scan_values.specs.Marked.{Marked, lost, null, gone, boolean, integer, text, list, struct}
use Rattle.scan_expr.specs.Eval.{null_test, not_value, length_value}
use Rattle.scan_expr.specs.Expr.{is_root, Expr, root, row_index, literal, unary, binary, pack, Parts, no_parts, part}
use Rattle.scan_partition.specs.Lists.{greater_of, children_at, necessary, all_necessary, at_validity, rewrite_validity, rewrite_validity_all, at_offsets, rewrite_offsets, rewrite_offsets_all, IsClass, IsListRow}
use Rattle.scan_partition.specs.declared.list_.ListChildrenNeeded.{ListChildrenNeeded}
use Rattle.scan_partition.specs.declared.list_.ListChildrenNeeded.TheVariants.{Validity, OffsetsAndValidity, All}
use Rattle.scan_expr.specs.declared.op.Unary.{Unary}
use Rattle.scan_expr.specs.declared.op.Unary.TheVariants.{GetItem, Select, Exclude, Not, IsNull, IsNotNull, ListLength}
use Rattle.scan_partition.proofs.Through.{Seen, seen, seen_all, seen_unary, seen_pack, same_binary, same_part}
use Rattle.scan_partition.proofs.Expanded.{is_root-sound}

pub class-split : (c x y : ListChildrenNeeded) → IsClass c (greater_of x y) → IsClass c x × IsClass c y
class-split Validity Validity y h = (tt, h)
class-split Validity OffsetsAndValidity Validity h = absurd h
class-split Validity OffsetsAndValidity OffsetsAndValidity h = absurd h
class-split Validity OffsetsAndValidity All h = absurd h
class-split Validity All y h = absurd h
class-split OffsetsAndValidity Validity y h = (tt, h)
class-split OffsetsAndValidity OffsetsAndValidity Validity h = (tt, tt)
class-split OffsetsAndValidity OffsetsAndValidity OffsetsAndValidity h = (tt, tt)
class-split OffsetsAndValidity OffsetsAndValidity All h = absurd h
class-split OffsetsAndValidity All y h = absurd h
class-split All x y h = (tt, tt)

-- whether the value is not null
abbrev pub here_of : DataType → Marked → Marked
here_of s v = cond (is_nullable s) (null_test false v) (boolean true)

not_here : (v : Marked) → not_value NonNullable (null_test false v) ≡ null_test true v
not_here lost = refl
not_here null = refl
not_here gone = refl
not_here (boolean b) = refl
not_here (integer z) = refl
not_here (text t) = refl
not_here (list ms) = refl
not_here (struct ms) = refl

module _ (s : DataType) (v : Marked) (k : ℕ) where
  not_here_of : not_value NonNullable (here_of s v) ≡ cond (is_nullable s) (null_test true v) (boolean false)
  not_here_of = go (is_nullable s)
    where
      go : (b : Bool) → not_value NonNullable (cond b (null_test false v) (boolean true)) ≡ cond b (null_test true v) (boolean false)
      go true = not_here v
      go false = refl

  at_validity_seen : (u : Unary) → IsClass Validity (children_at u) → seen (bool_type NonNullable) (here_of s v) k (at_validity u) ≡ seen_unary u (s, v)
  at_validity_seen (GetItem n) h = absurd h
  at_validity_seen (Select ns) h = absurd h
  at_validity_seen (Exclude ns) h = absurd h
  at_validity_seen Not h = absurd h
  at_validity_seen IsNull h = λ i. (bool_type NonNullable, not_here_of i)
  at_validity_seen IsNotNull h = refl
  at_validity_seen ListLength h = absurd h

  mutual
    pub rewrite_validity_seen : (e : Expr) → IsClass Validity (necessary e) → seen (bool_type NonNullable) (here_of s v) k (rewrite_validity e) ≡ seen s v k e
    rewrite_validity_seen root h = absurd h
    rewrite_validity_seen row_index h = refl
    rewrite_validity_seen (literal d m) h = refl
    rewrite_validity_seen (unary u e) h = go (is_root e) (is_root-sound e) h (rewrite_validity_seen e)
      where
        go : (b : Bool) → (b ≡ true → e ≡ root) → IsClass Validity (cond b (children_at u) (necessary e)) → (IsClass Validity (necessary e) → seen (bool_type NonNullable) (here_of s v) k (rewrite_validity e) ≡ seen s v k e)
            → seen (bool_type NonNullable) (here_of s v) k (cond b (at_validity u) (unary u (rewrite_validity e))) ≡ seen_unary u (seen s v k e)
        go true r h f = at_validity_seen u h ∙ ap (λ x. seen_unary u (seen s v k x)) (sym (r refl))
        go false r h f = ap (seen_unary u) (f h)
    rewrite_validity_seen (binary b x y) h =
        let hs = class-split Validity (necessary x) (necessary y) h in
        same_binary b _ _ _ _ (rewrite_validity_seen x hs.0) (rewrite_validity_seen y hs.1)
    rewrite_validity_seen (pack ps n) h = ap (seen_pack n) (rewrite_validity_all_seen ps h)

    pub rewrite_validity_all_seen : (ps : Parts) → IsClass Validity (all_necessary ps) → seen_all (bool_type NonNullable) (here_of s v) k (rewrite_validity_all ps) ≡ seen_all s v k ps
    rewrite_validity_all_seen no_parts h = refl
    rewrite_validity_all_seen (part n e ps) h =
        let hs = class-split Validity (necessary e) (all_necessary ps) h in
        same_part n _ _ _ _ (rewrite_validity_seen e hs.0) (rewrite_validity_all_seen ps hs.1)

  abbrev pub lengths : Seen
  lengths = (int_type U64 (nullability_of s), length_value (nullability_of s) v)

  module _ (row : IsListRow (nullability_of s) v) where
    null_length : (want : Bool) → cond (is_null_kind (nullability_of s)) (null_test want (length_value (nullability_of s) v)) (boolean (not want)) ≡ cond (is_null_kind (nullability_of s)) (null_test want v) (boolean (not want))
    null_length want = go (nullability_of s) v row
      where
        go : (n : Nullability) (v : Marked) → IsListRow n v → cond (is_null_kind n) (null_test want (length_value n v)) (boolean (not want)) ≡ cond (is_null_kind n) (null_test want v) (boolean (not want))
        go n (list ms) r = refl
        go n null r = refl
        go Nullable lost r = refl
        go NonNullable lost r = refl
        go n v r = absurd r

    at_offsets_seen : (u : Unary) → IsClass OffsetsAndValidity (children_at u) → seen lengths.0 lengths.1 k (at_offsets u) ≡ seen_unary u (s, v)
    at_offsets_seen (GetItem n) h = absurd h
    at_offsets_seen (Select ns) h = absurd h
    at_offsets_seen (Exclude ns) h = absurd h
    at_offsets_seen Not h = absurd h
    at_offsets_seen IsNull h = λ i. (bool_type NonNullable, null_length true i)
    at_offsets_seen IsNotNull h = λ i. (bool_type NonNullable, null_length false i)
    at_offsets_seen ListLength h = refl

    mutual
      pub rewrite_offsets_seen : (e : Expr) → IsClass OffsetsAndValidity (necessary e) → seen lengths.0 lengths.1 k (rewrite_offsets e) ≡ seen s v k e
      rewrite_offsets_seen root h = absurd h
      rewrite_offsets_seen row_index h = refl
      rewrite_offsets_seen (literal d m) h = refl
      rewrite_offsets_seen (unary u e) h = go (is_root e) (is_root-sound e) h (rewrite_offsets_seen e)
        where
          go : (b : Bool) → (b ≡ true → e ≡ root) → IsClass OffsetsAndValidity (cond b (children_at u) (necessary e)) → (IsClass OffsetsAndValidity (necessary e) → seen lengths.0 lengths.1 k (rewrite_offsets e) ≡ seen s v k e)
              → seen lengths.0 lengths.1 k (cond b (at_offsets u) (unary u (rewrite_offsets e))) ≡ seen_unary u (seen s v k e)
          go true r h f = at_offsets_seen u h ∙ ap (λ x. seen_unary u (seen s v k x)) (sym (r refl))
          go false r h f = ap (seen_unary u) (f h)
      rewrite_offsets_seen (binary b x y) h =
          let hs = class-split OffsetsAndValidity (necessary x) (necessary y) h in
          same_binary b _ _ _ _ (rewrite_offsets_seen x hs.0) (rewrite_offsets_seen y hs.1)
      rewrite_offsets_seen (pack ps n) h = ap (seen_pack n) (rewrite_offsets_all_seen ps h)

      pub rewrite_offsets_all_seen : (ps : Parts) → IsClass OffsetsAndValidity (all_necessary ps) → seen_all lengths.0 lengths.1 k (rewrite_offsets_all ps) ≡ seen_all s v k ps
      rewrite_offsets_all_seen no_parts h = refl
      rewrite_offsets_all_seen (part n e ps) h =
          let hs = class-split OffsetsAndValidity (necessary e) (all_necessary ps) h in
          same_part n _ _ _ _ (rewrite_offsets_seen e hs.0) (rewrite_offsets_all_seen ps hs.1)
