-- The class of an expression over a list is the greatest of its uses.
use Rattle.std.proofs.Common.{◌≡◌, Bool, true, false, cond, Some, None, List, [], ◌∷◌, ◌++◌, map, All as Each, refl, ap, sym, subst, ◌∙◌}
use Rattle.std.proofs.lemmas.List.Elements.{All-append, All-cons, All-nil}
use Rattle.scan_values.specs.DataType.{DataType, list_type}
use Rattle.scan_values.specs.declared.ptype.Nullability.{Nullability}
use Rattle.scan_expr.specs.declared.op.Unary.{Unary}
use Rattle.scan_expr.specs.declared.op.Unary.TheVariants.{GetItem, Select, Exclude, Not, IsNull, IsNotNull, ListLength}
use Rattle.scan_expr.specs.Expr.{is_root, Expr, root, row_index, literal, unary, binary, pack, Parts, no_parts, part}
use Rattle.scan_expr.specs.Infer.{infer, struct_fields}
use Rattle.scan_expr.specs.Typing.{Fault, or_fault, unary_fault, binary_fault, typing_fault, parts_typing_fault}
use Rattle.scan_expr.specs.Needs.{Demand, whole, null_alone, length_alone, asked, uses, uses_all}
use Rattle.scan_partition.specs.declared.list_.ListChildrenNeeded.{ListChildrenNeeded}
use Rattle.scan_partition.specs.Lists.{greater_of, children_at, necessary, all_necessary}
use Rattle.scan_partition.specs.ListUses.{class_of, greatest, IsOfTheList}
use Rattle.scan_partition.proofs.Necessary.{greater_assoc}
use Rattle.scan_partition.proofs.Expanded.{is_root-sound}

greatest_append : (ds es : List Demand) → greatest (map class_of (ds ++ es)) ≡ greater_of (greatest (map class_of ds)) (greatest (map class_of es))
greatest_append [] es = refl
greatest_append (d ∷ ds) es = ap (greater_of (class_of d)) (greatest_append ds es) ∙ sym (greater_assoc (class_of d) (greatest (map class_of ds)) (greatest (map class_of es)))

module _ (s : DataType) where
  -- an operator on the list itself
  at_list : (u : Unary) (k : Demand) → greatest (map class_of (uses s (unary u root) k)) ≡ children_at u
  at_list (GetItem n) k = refl
  at_list (Select ns) k = refl
  at_list (Exclude ns) k = refl
  at_list Not k = refl
  at_list IsNull k = refl
  at_list IsNotNull k = refl
  at_list ListLength k = refl

  -- where something is read of the value of an operator, its own part's uses have the class all the same
  mutual
    pub uses_greatest : (e : Expr) (k : Demand) → (is_root e ≡ true → k ≡ whole) → greatest (map class_of (uses s e k)) ≡ necessary e
    uses_greatest root k h = ap (λ k. greatest (class_of k ∷ [])) (h refl)
    uses_greatest row_index k h = refl
    uses_greatest (literal d v) k h = refl
    uses_greatest (unary u e) k h = go (is_root e) (is_root-sound e) (uses_greatest e (asked u (struct_fields (infer s e)) k))
      where
        go : (b : Bool) → (b ≡ true → e ≡ root) → ((b ≡ true → asked u (struct_fields (infer s e)) k ≡ whole) → greatest (map class_of (uses s (unary u e) k)) ≡ necessary e) → greatest (map class_of (uses s (unary u e) k)) ≡ cond b (children_at u) (necessary e)
        go true r f = ap (λ x. greatest (map class_of (uses s (unary u x) k))) (r refl) ∙ at_list u k
        go false r f = f (λ c. absurd (clash c))
          where
            clash : false ≡ true → ⊥
            clash c = cc
    uses_greatest (binary b x y) k h =
        greatest_append (uses s x whole) (uses s y whole) ∙ ap (λ c. greater_of c (greatest (map class_of (uses s y whole)))) (uses_greatest x whole (λ _. refl)) ∙ ap (greater_of (necessary x)) (uses_greatest y whole (λ _. refl))
    uses_greatest (pack ps n) k h = all_uses_greatest ps

    all_uses_greatest : (ps : Parts) → greatest (map class_of (uses_all s ps)) ≡ all_necessary ps
    all_uses_greatest no_parts = refl
    all_uses_greatest (part n e ps) =
        greatest_append (uses s e whole) (uses_all s ps) ∙ ap (λ c. greater_of c (greatest (map class_of (uses_all s ps)))) (uses_greatest e whole (λ _. refl)) ∙ ap (greater_of (necessary e)) (all_uses_greatest ps)

pub necessary_is : (s : DataType) (e : Expr) → necessary e ≡ greatest (map class_of (uses s e whole))
necessary_is s e = sym (uses_greatest s e whole (λ _. refl))

pub greatest_is : (c : ListChildrenNeeded) (s : DataType) (e : Expr) → c ≡ necessary e → c ≡ greatest (map class_of (uses s e whole))
greatest_is c s e h = h ∙ necessary_is s e

-- ---- over a list, nothing that types reads a field
first_none : (f g : Fault) → or_fault f g ≡ None → f ≡ None
first_none None g h = refl
first_none (Some x) g h = cc

second_none : (f g : Fault) → or_fault f g ≡ None → g ≡ None
second_none None g h = h
second_none (Some x) g h = cc

no_uses : Each IsOfTheList []
no_uses = All-nil IsOfTheList

one_use : (k : Demand) → IsOfTheList k → Each IsOfTheList (k ∷ [])
one_use k h = All-cons IsOfTheList k [] h no_uses

module _ (d : DataType) (n : Nullability) where
  plain_at : (u : Unary) (k : Demand) → unary_fault u (list_type d n) ≡ None → Each IsOfTheList (uses (list_type d n) (unary u root) k)
  plain_at (GetItem f) k h = cc
  plain_at (Select ns) k h = cc
  plain_at (Exclude ns) k h = cc
  plain_at Not k h = one_use whole tt
  plain_at IsNull k h = one_use null_alone tt
  plain_at IsNotNull k h = one_use null_alone tt
  plain_at ListLength k h = one_use length_alone tt

  mutual
    pub uses_plain : (e : Expr) (k : Demand) → (is_root e ≡ true → k ≡ whole) → typing_fault (list_type d n) e ≡ None → Each IsOfTheList (uses (list_type d n) e k)
    uses_plain root k r h = subst (λ k. Each IsOfTheList (k ∷ [])) (sym (r refl)) (one_use whole tt)
    uses_plain row_index k r h = no_uses
    uses_plain (literal t v) k r h = no_uses
    uses_plain (unary u e) k r h = go (is_root e) (is_root-sound e) (λ g. uses_plain e (asked u (struct_fields (infer (list_type d n) e)) k) g (first_none (typing_fault (list_type d n) e) (unary_fault u (infer (list_type d n) e)) h))
      where
        go : (b : Bool) → (b ≡ true → e ≡ root) → ((b ≡ true → asked u (struct_fields (infer (list_type d n) e)) k ≡ whole) → Each IsOfTheList (uses (list_type d n) (unary u e) k)) → Each IsOfTheList (uses (list_type d n) (unary u e) k)
        go true q f = subst (λ x. Each IsOfTheList (uses (list_type d n) (unary u x) k)) (sym (q refl)) (plain_at u k (subst (λ x. unary_fault u (infer (list_type d n) x) ≡ None) (q refl) (second_none (typing_fault (list_type d n) e) (unary_fault u (infer (list_type d n) e)) h)))
        go false q f = f (λ c. absurd (clash c))
          where
            clash : false ≡ true → ⊥
            clash c = cc
    uses_plain (binary b x y) k r h =
        let g = second_none (typing_fault (list_type d n) x) (or_fault (typing_fault (list_type d n) y) (binary_fault b (infer (list_type d n) x) (infer (list_type d n) y))) h in
        All-append IsOfTheList (uses (list_type d n) x whole) (uses (list_type d n) y whole)
        (uses_plain x whole (λ _. refl) (first_none (typing_fault (list_type d n) x) (or_fault (typing_fault (list_type d n) y) (binary_fault b (infer (list_type d n) x) (infer (list_type d n) y))) h))
        (uses_plain y whole (λ _. refl) (first_none (typing_fault (list_type d n) y) (binary_fault b (infer (list_type d n) x) (infer (list_type d n) y)) g))
    uses_plain (pack ps m) k r h = all_uses_plain ps h

    all_uses_plain : (ps : Parts) → parts_typing_fault (list_type d n) ps ≡ None → Each IsOfTheList (uses_all (list_type d n) ps)
    all_uses_plain no_parts h = no_uses
    all_uses_plain (part m e ps) h =
        All-append IsOfTheList (uses (list_type d n) e whole) (uses_all (list_type d n) ps) (uses_plain e whole (λ _. refl) (first_none (typing_fault (list_type d n) e) (parts_typing_fault (list_type d n) ps) h))
        (all_uses_plain ps (second_none (typing_fault (list_type d n) e) (parts_typing_fault (list_type d n) ps) h))
