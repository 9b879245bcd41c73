-- What is needed of a list, by the class of the expression.
use Rattle.std.proofs.Common.{◌≡◌, Bool, true, false, cond, ◌||◌, List, [], ◌∷◌, ◌++◌, map, refl, ap, sym, ◌∙◌}
use Rattle.scan_values.specs.DataType.{DataType, list_type}
use Rattle.scan_values.specs.declared.ptype.Nullability.{Nullability}
use Rattle.scan_values.specs.Paths.{Path}
use Rattle.scan_expr.specs.Expr.{Expr, root, row_index, literal, unary, binary, pack, Parts, no_parts, part}
use Rattle.scan_expr.specs.Infer.{infer, struct_fields}
use Rattle.scan_expr.specs.Needs.{Demand, whole, null_alone, length_alone, fields, at, asked, uses, uses_all, is_validity_of, is_offsets, under_elements, is_leaf, use_needs, needs, any_needs, has_none, needed}
use Rattle.scan_partition.specs.declared.list_.ListChildrenNeeded.{ListChildrenNeeded}
use Rattle.scan_partition.specs.declared.list_.ListChildrenNeeded.TheVariants.{Validity, OffsetsAndValidity, All}
use Rattle.scan_partition.specs.Lists.{greater_of, necessary}
use Rattle.scan_partition.specs.ListUses.{class_of, greatest, is_leaf_of_class}
use Rattle.scan_partition.proofs.Necessary.{greater_none}
use Rattle.scan_partition.proofs.ListUses.{necessary_is}

or_false : (b : Bool) → b || false ≡ b
or_false true = refl
or_false false = refl

or_assoc : (a b c : Bool) → (a || b) || c ≡ a || (b || c)
or_assoc true b c = refl
or_assoc false b c = refl

-- ---- what is needed is what the uses need
abbrev pub any_use : DataType → List Demand → Path → Bool
any_use s [] p = false
any_use s (k ∷ ks) p = use_needs k s p || any_use s ks p

any_append : (s : DataType) (ks js : List Demand) (p : Path) → any_use s (ks ++ js) p ≡ any_use s ks p || any_use s js p
any_append s [] js p = refl
any_append s (k ∷ ks) js p = ap (λ b. use_needs k s p || b) (any_append s ks js p) ∙ sym (or_assoc (use_needs k s p) (any_use s ks p) (any_use s js p))

mutual
  needs_any : (s : DataType) (e : Expr) (k : Demand) (p : Path) → needs s e k p ≡ any_use s (uses s e k) p
  needs_any s root k p = sym (or_false (use_needs k s p))
  needs_any s row_index k p = refl
  needs_any s (literal d v) k p = refl
  needs_any s (unary u e) k p = needs_any s e (asked u (struct_fields (infer s e)) k) p
  needs_any s (binary b x y) k p = ap (λ c. c || needs s y whole p) (needs_any s x whole p) ∙ ap (λ c. any_use s (uses s x whole) p || c) (needs_any s y whole p) ∙ sym (any_append s (uses s x whole) (uses s y whole) p)
  needs_any s (pack ps n) k p = any_needs_any s ps p

  any_needs_any : (s : DataType) (ps : Parts) (p : Path) → any_needs s ps p ≡ any_use s (uses_all s ps) p
  any_needs_any s no_parts p = refl
  any_needs_any s (part n e ps) p = ap (λ c. c || any_needs s ps p) (needs_any s e whole p) ∙ ap (λ c. any_use s (uses s e whole) p || c) (any_needs_any s ps p) ∙ sym (any_append s (uses s e whole) (uses_all s ps) p)

-- ---- the leaves of classes
-- validity, offsets, elements
abbrev among : ListChildrenNeeded → Bool → Bool → Bool → Bool
among Validity v o l = v
among OffsetsAndValidity v o l = v || o
among All v o l = v || (o || l)

among_greater : (a b : ListChildrenNeeded) (v o l : Bool) → among (greater_of a b) v o l ≡ among a v o l || among b v o l
among_greater Validity Validity true o l = refl
among_greater Validity Validity false o l = refl
among_greater Validity OffsetsAndValidity true o l = refl
among_greater Validity OffsetsAndValidity false o l = refl
among_greater Validity All true o l = refl
among_greater Validity All false o l = refl
among_greater OffsetsAndValidity b true o l = at_validity b
  where
    at_validity : (b : ListChildrenNeeded) → among (greater_of OffsetsAndValidity b) true o l ≡ true
    at_validity Validity = refl
    at_validity OffsetsAndValidity = refl
    at_validity All = refl
among_greater OffsetsAndValidity Validity false o l = sym (or_false o)
among_greater OffsetsAndValidity OffsetsAndValidity false true l = refl
among_greater OffsetsAndValidity OffsetsAndValidity false false l = refl
among_greater OffsetsAndValidity All false true l = refl
among_greater OffsetsAndValidity All false false l = refl
among_greater All b true o l = refl
among_greater All Validity false o l = sym (or_false (o || l))
among_greater All OffsetsAndValidity false true l = refl
among_greater All OffsetsAndValidity false false l = sym (or_false l)
among_greater All All false true l = refl
among_greater All All false false true = refl
among_greater All All false false false = refl

module _ (d : DataType) (n : Nullability) (p : Path) where
  abbrev leaves : ListChildrenNeeded → Bool
  leaves c = is_leaf_of_class c (list_type d n) p

  leaves_are : (c : ListChildrenNeeded) → leaves c ≡ among c (is_validity_of n p) (is_offsets p) (under_elements (is_leaf d) p)
  leaves_are Validity = refl
  leaves_are OffsetsAndValidity = refl
  leaves_are All = refl

  leaves_greater : (a b : ListChildrenNeeded) → leaves (greater_of a b) ≡ leaves a || leaves b
  leaves_greater a b =
      leaves_are (greater_of a b) ∙ among_greater a b (is_validity_of n p) (is_offsets p) (under_elements (is_leaf d) p)
      ∙ ap (λ c. c || among b (is_validity_of n p) (is_offsets p) (under_elements (is_leaf d) p)) (sym (leaves_are a)) ∙ ap (λ c. leaves a || c) (sym (leaves_are b))

  use_leaves : (k : Demand) → use_needs k (list_type d n) p ≡ leaves (class_of k)
  use_leaves whole = refl
  use_leaves null_alone = refl
  use_leaves length_alone = refl
  use_leaves (fields ns) = refl
  use_leaves (at f k) = refl

  any_leaves : (k : Demand) (ks : List Demand) → any_use (list_type d n) (k ∷ ks) p ≡ leaves (greatest (map class_of (k ∷ ks)))
  any_leaves k [] = or_false (use_needs k (list_type d n) p) ∙ use_leaves k ∙ ap leaves (sym (greater_none (class_of k)))
  any_leaves k (j ∷ ks) =
      ap (λ c. c || any_use (list_type d n) (j ∷ ks) p) (use_leaves k) ∙ ap (λ c. leaves (class_of k) || c) (any_leaves j ks) ∙ sym (leaves_greater (class_of k) (greatest (map class_of (j ∷ ks))))

  pub needed_is : (e : Expr) → needed (list_type d n) e p ≡ leaves (necessary e)
  needed_is e = ap (λ c. cond (has_none (uses (list_type d n) e whole)) (is_validity_of n p) c) (needs_any (list_type d n) e whole p) ∙ go (uses (list_type d n) e whole) ∙ ap leaves (sym (necessary_is (list_type d n) e))
    where
      go : (ks : List Demand) → cond (has_none ks) (is_validity_of n p) (any_use (list_type d n) ks p) ≡ leaves (greatest (map class_of ks))
      go [] = refl
      go (k ∷ ks) = any_leaves k ks
