-- Over a list's length an expression overflows only where it does so over the list.
use Rattle.std.proofs.Common.{◌≡◌, ℕ, ◌<◌, ◌^◌, Bool, true, false, cond, not, ◌||◌, refl, sym, subst, ◌∙◌}
use Rattle.scan_values.specs.DataType.{DataType, int_type, list_type, is_null_kind}
use Rattle.scan_values.specs.Fits.{fits}
use Rattle.scan_values.specs.Val.{marked}
use Rattle.scan_values.specs.Marked.{Marked, lost, null, gone, boolean, integer, text, list, struct}
use Rattle.scan_values.specs.declared.ptype.PType.TheVariants.{U64}
use Rattle.scan_values.specs.declared.ptype.Nullability.{Nullability}
use Rattle.scan_values.specs.declared.ptype.Nullability.TheVariants.{NonNullable, Nullable}
use Rattle.scan_expr.specs.declared.op.Unary.{Unary}
use Rattle.scan_expr.specs.declared.op.Unary.TheVariants.{GetItem, Select, Exclude, Not, IsNull, IsNotNull, ListLength}
use Rattle.scan_expr.specs.Expr.{is_root, Expr, root, row_index, literal, unary, binary, pack, Parts, no_parts, part}
use Rattle.scan_expr.specs.Infer.{infer}
use Rattle.scan_expr.specs.Eval.{null_test, length_value, unary_value, binary_value, eval, eval_all}
use Rattle.scan_expr.specs.Overflow.{spills, overflows, any_overflows}
use Rattle.scan_expr.proofs.Sound.{eval_fits}
use Rattle.scan_partition.specs.Lists.{IsClass, children_at, necessary, all_necessary, at_offsets, rewrite_offsets, rewrite_offsets_all}
use Rattle.scan_partition.specs.declared.list_.ListChildrenNeeded.TheVariants.{OffsetsAndValidity}
use Rattle.scan_partition.proofs.Below.{Below, AllBelow, below_refl, unary_below, binary_below, spills_up}
use Rattle.scan_partition.proofs.Calls.{same_length_type}
use Rattle.scan_partition.proofs.Classes.{class-split}
use Rattle.scan_partition.proofs.Expanded.{is_root-sound}
use Rattle.scan_partition.proofs.Faultless.{nodes_faultless}
use Rattle.scan_partition.proofs.Typed.{NodesTyped, AllNodesTyped}

module _ (el : DataType) (n : Nullability) where
  offsets_type : (e : Expr) → IsClass OffsetsAndValidity (necessary e) → infer (int_type U64 n) (rewrite_offsets e) ≡ infer (list_type el n) e
  offsets_type e h = same_length_type (list_type el n) e h

  -- ---- the values
  null_length_below : (want : Bool) (v : Marked) → fits v (list_type el n) ≡ true → Below (null_test want (length_value n v)) (null_test want v)
  null_length_below want v h = nulls n v h
    where
      nulls : (n : Nullability) (v : Marked) → fits v (list_type el n) ≡ true → Below (null_test want (length_value n v)) (null_test want v)
      nulls NonNullable lost h = cc
      nulls Nullable lost h = tt
      nulls n null h = refl
      nulls NonNullable gone h = refl
      nulls Nullable gone h = tt
      nulls n (boolean b) h = cc
      nulls n (integer z) h = cc
      nulls n (text s) h = cc
      nulls n (list ms) h = refl
      nulls n (struct ms) h = cc

  module _ (v : Marked) (k : ℕ) (fit : fits v (list_type el n) ≡ true) (small : k < 2 ^ 64) where
    node_fits : (e : Expr) → NodesTyped (list_type el n) e → fits (eval (list_type el n) e v k) (infer (list_type el n) e) ≡ true
    node_fits e t = eval_fits (list_type el n) e v k fit small (nodes_faultless (list_type el n) e t)

    at_offsets_below : (u : Unary) → IsClass OffsetsAndValidity (children_at u) → Below (eval (int_type U64 n) (at_offsets u) (length_value n v) k) (unary_value u (list_type el n) v)
    at_offsets_below (GetItem m) h = absurd h
    at_offsets_below (Select ns) h = absurd h
    at_offsets_below (Exclude ns) h = absurd h
    at_offsets_below Not h = absurd h
    at_offsets_below IsNull h = where_nullable (is_null_kind n) true
      where
        where_nullable : (b want : Bool) → Below (cond b (null_test want (length_value n v)) (boolean (not want))) (cond b (null_test want v) (boolean (not want)))
        where_nullable true want = null_length_below want v fit
        where_nullable false want = refl
    at_offsets_below IsNotNull h = where_nullable (is_null_kind n) false
      where
        where_nullable : (b want : Bool) → Below (cond b (null_test want (length_value n v)) (boolean (not want))) (cond b (null_test want v) (boolean (not want)))
        where_nullable true want = null_length_below want v fit
        where_nullable false want = refl
    at_offsets_below ListLength h = below_refl (length_value n v)

    mutual
      pub offsets_below : (e : Expr) → NodesTyped (list_type el n) e → IsClass OffsetsAndValidity (necessary e) → Below (eval (int_type U64 n) (rewrite_offsets e) (length_value n v) k) (eval (list_type el n) e v k)
      offsets_below root t h = absurd h
      offsets_below row_index t h = refl
      offsets_below (literal d m) t h = below_refl (marked m)
      offsets_below (unary u e) t h = go (is_root e) (is_root-sound e) h (λ g. offsets_below e t.1 g)
        where
          go : (b : Bool) → (b ≡ true → e ≡ root) → IsClass OffsetsAndValidity (cond b (children_at u) (necessary e)) → (IsClass OffsetsAndValidity (necessary e) → Below (eval (int_type U64 n) (rewrite_offsets e) (length_value n v) k) (eval (list_type el n) e v k))
              → Below (eval (int_type U64 n) (cond b (at_offsets u) (unary u (rewrite_offsets e))) (length_value n v) k) (unary_value u (infer (list_type el n) e) (eval (list_type el n) e v k))
          go true r h f = subst (λ x. Below (eval (int_type U64 n) (at_offsets u) (length_value n v) k) (unary_value u (infer (list_type el n) x) (eval (list_type el n) x v k))) (sym (r refl)) (at_offsets_below u h)
          go false r h f = subst (λ d. Below (unary_value u d (eval (int_type U64 n) (rewrite_offsets e) (length_value n v) k)) (unary_value u (infer (list_type el n) e) (eval (list_type el n) e v k))) (sym (offsets_type e h))
              (unary_below u (infer (list_type el n) e) (eval (int_type U64 n) (rewrite_offsets e) (length_value n v) k) (eval (list_type el n) e v k) t.0 (node_fits e t.1) (node_fits (unary u e) t) (f h))
      offsets_below (binary b x y) t h =
          let hs = class-split OffsetsAndValidity (necessary x) (necessary y) h in
          subst (λ d. Below (binary_value b d (eval (int_type U64 n) (rewrite_offsets x) (length_value n v) k) (eval (int_type U64 n) (rewrite_offsets y) (length_value n v) k)) (eval (list_type el n) (binary b x y) v k)) (sym (offsets_type (binary b x y) h))
          (binary_below b (infer (list_type el n) x) (infer (list_type el n) y) (eval (int_type U64 n) (rewrite_offsets x) (length_value n v) k)
          (eval (int_type U64 n) (rewrite_offsets y) (length_value n v) k) (eval (list_type el n) x v k) (eval (list_type el n) y v k)
          (node_fits (binary b x y) t) (offsets_below x t.1 hs.0) (offsets_below y t.2 hs.1))
      offsets_below (pack ps m) t h = all_offsets_below ps t h

      all_offsets_below : (ps : Parts) → AllNodesTyped (list_type el n) ps → IsClass OffsetsAndValidity (all_necessary ps) → AllBelow (eval_all (int_type U64 n) (rewrite_offsets_all ps) (length_value n v) k) (eval_all (list_type el n) ps v k)
      all_offsets_below no_parts t h = tt
      all_offsets_below (part m e ps) t h = let hs = class-split OffsetsAndValidity (necessary e) (all_necessary ps) h in (offsets_below e t.0 hs.0, all_offsets_below ps t.1 hs.1)

    -- ---- what overflows
    or_up : (a b c d : Bool) → (a ≡ true → c ≡ true) → (b ≡ true → d ≡ true) → (a || b) ≡ true → (c || d) ≡ true
    or_up true b true d f g h = refl
    or_up true b false d f g h = absurd (clash (f refl))
      where
        clash : false ≡ true → ⊥
        clash e = cc
    or_up false b true d f g h = refl
    or_up false b false d f g h = g h

    at_offsets_calm : (u : Unary) → overflows (int_type U64 n) (at_offsets u) (length_value n v) k ≡ false
    at_offsets_calm (GetItem m) = refl
    at_offsets_calm (Select ns) = refl
    at_offsets_calm (Exclude ns) = refl
    at_offsets_calm Not = refl
    at_offsets_calm IsNull = refl
    at_offsets_calm IsNotNull = refl
    at_offsets_calm ListLength = refl

    mutual
      pub offsets_overflow : (e : Expr) → NodesTyped (list_type el n) e → IsClass OffsetsAndValidity (necessary e) → overflows (int_type U64 n) (rewrite_offsets e) (length_value n v) k ≡ true → overflows (list_type el n) e v k ≡ true
      offsets_overflow root t h o = absurd h
      offsets_overflow row_index t h o = o
      offsets_overflow (literal d m) t h o = o
      offsets_overflow (unary u e) t h o = go (is_root e) h (λ g. offsets_overflow e t.1 g) o
        where
          go : (b : Bool) → IsClass OffsetsAndValidity (cond b (children_at u) (necessary e)) → (IsClass OffsetsAndValidity (necessary e) → overflows (int_type U64 n) (rewrite_offsets e) (length_value n v) k ≡ true → overflows (list_type el n) e v k ≡ true)
              → overflows (int_type U64 n) (cond b (at_offsets u) (unary u (rewrite_offsets e))) (length_value n v) k ≡ true → overflows (list_type el n) e v k ≡ true
          go true h f o = clash (sym o ∙ at_offsets_calm u)
            where
              clash : {A : Type 0} → true ≡ false → A
              clash e = cc
          go false h f o = f h o
      offsets_overflow (binary b x y) t h o =
          let hs = class-split OffsetsAndValidity (necessary x) (necessary y) h in
          let w = length_value n v in
          or_up (overflows (int_type U64 n) (rewrite_offsets x) w k) (overflows (int_type U64 n) (rewrite_offsets y) w k || spills b (infer (int_type U64 n) (rewrite_offsets (binary b x y))) (eval (int_type U64 n) (rewrite_offsets x) w k) (eval (int_type U64 n) (rewrite_offsets y) w k))
          (overflows (list_type el n) x v k) (overflows (list_type el n) y v k || spills b (infer (list_type el n) (binary b x y)) (eval (list_type el n) x v k) (eval (list_type el n) y v k))
          (offsets_overflow x t.1 hs.0)
          (or_up (overflows (int_type U64 n) (rewrite_offsets y) w k) (spills b (infer (int_type U64 n) (rewrite_offsets (binary b x y))) (eval (int_type U64 n) (rewrite_offsets x) w k) (eval (int_type U64 n) (rewrite_offsets y) w k))
          (overflows (list_type el n) y v k) (spills b (infer (list_type el n) (binary b x y)) (eval (list_type el n) x v k) (eval (list_type el n) y v k))
          (offsets_overflow y t.2 hs.1)
          (λ q. spills_up b (infer (list_type el n) (binary b x y)) (eval (int_type U64 n) (rewrite_offsets x) w k) (eval (int_type U64 n) (rewrite_offsets y) w k) (eval (list_type el n) x v k) (eval (list_type el n) y v k) (offsets_below x t.1 hs.0) (offsets_below y t.2 hs.1)
          (subst (λ d. spills b d (eval (int_type U64 n) (rewrite_offsets x) w k) (eval (int_type U64 n) (rewrite_offsets y) w k) ≡ true) (offsets_type (binary b x y) h) q)))
          o
      offsets_overflow (pack ps m) t h o = all_offsets_overflow ps t h o

      all_offsets_overflow : (ps : Parts) → AllNodesTyped (list_type el n) ps → IsClass OffsetsAndValidity (all_necessary ps) → any_overflows (int_type U64 n) (rewrite_offsets_all ps) (length_value n v) k ≡ true → any_overflows (list_type el n) ps v k ≡ true
      all_offsets_overflow no_parts t h o = o
      all_offsets_overflow (part m e ps) t h o =
          let hs = class-split OffsetsAndValidity (necessary e) (all_necessary ps) h in
          or_up (overflows (int_type U64 n) (rewrite_offsets e) (length_value n v) k)
          (any_overflows (int_type U64 n) (rewrite_offsets_all ps) (length_value n v) k) (overflows (list_type el n) e v k)
          (any_overflows (list_type el n) ps v k) (offsets_overflow e t.0 hs.0) (all_offsets_overflow ps t.1 hs.1) o

pub offsets_overflow_only : (s : DataType) (e : Expr) (el : DataType) (n : Nullability) (v : Marked) (k : ℕ) → s ≡ list_type el n → fits v s ≡ true → k < 2 ^ 64 → NodesTyped s e → IsClass OffsetsAndValidity (necessary e)
    → overflows (infer s (unary ListLength root)) (rewrite_offsets e) (eval s (unary ListLength root) v k) k ≡ true → overflows s e v k ≡ true
offsets_overflow_only s e el n v k is fit small t h o =
    subst (λ (d : DataType). fits v d ≡ true → NodesTyped d e → overflows (infer d (unary ListLength root)) (rewrite_offsets e) (eval d (unary ListLength root) v k) k ≡ true → overflows d e v k ≡ true) (sym is)
    (λ f y q. offsets_overflow el n v k f small e y h q) fit t o
