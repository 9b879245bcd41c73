-- What the parts need that read the child, where an expression is taken apart by the row's number and the child.
use Rattle.std.proofs.Common.{◌≡◌, ◌⊎◌, inl, inr, Bool, true, false, cond, List, [], ◌∷◌, ◌++◌, map, None, refl, ap, sym, subst, ◌∙◌, bytes_eq}
use Rattle.scan_values.specs.DataType.{DataType}
use Rattle.scan_values.specs.Paths.{Path}
use Rattle.scan_expr.specs.Bound.{bound_of}
use Rattle.scan_expr.specs.Expr.{is_root, Expr, root, row_index, literal, unary, binary, pack, Parts, no_parts, part, uses_row_index}
use Rattle.scan_expr.specs.Infer.{infer, struct_fields}
use Rattle.scan_expr.specs.Needs.{Demand, whole, asked, needs}
use Rattle.scan_partition.specs.declared.item.Item.{Item}
use Rattle.scan_partition.specs.declared.item.Item.TheVariants.{Field, Validity}
use Rattle.scan_partition.specs.Items.{AtMost, same_item, root_item, item_of, Use, no_use, one, many, both, or_use, use_of, uses_of}
use Rattle.scan_partition.specs.Divided.{group_part, stepped}
use Rattle.scan_partition.specs.Rows.{item_type}
use Rattle.scan_partition.specs.RowDivided.{uses_root, numbered_scope, partition_of}
use Rattle.scan_partition.specs.RowSplit.{row_split_by}
use Rattle.scan_partition.specs.Lift.{row_name, child_name, lift, lift_all}
use Rattle.scan_partition.specs.Partition.{Cut, Group, or_root, cut_or, cuts, all_cuts, groups_of, part_of, step_into, step_into_all}
use Rattle.scan_partition.specs.Needing.{LiesUnder, OfChild, EachOfChild, RowSplitNeedsNoMore, RowPartsNeedNoMore}
use Rattle.scan_partition.proofs.Through.{both-split}
use Rattle.scan_partition.proofs.Parted.{NotOne}
use Rattle.scan_partition.proofs.Wants.{Needs, AnyNeeds}
use Rattle.scan_partition.proofs.Tested.{needs_told, needs_tests}
use Rattle.scan_partition.proofs.NoUses.{used_is, is_used, clash}
use Rattle.scan_partition.proofs.Dividing.{CutsAll, all_append, AllOf, SomeOf, GroupsAll, collected_all}
use Rattle.scan_partition.proofs.PartNeeds.{WholeWhereOne, whole_any, not_one_whole, AnyStepNeeds, part_needs, part_uses, named}

abbrev pub the_child : Item
the_child = Field child_name

abbrev pub the_row : Item
the_row = Field row_name

abbrev is_child : Item → Bool
is_child (Field n) = bytes_eq n child_name
is_child Validity = false

child_is_not_row : the_child ≡ the_row → ⊥
child_is_not_row h = clash (sym (ap is_child h))

-- ---- a part over the child alone is what it was before it was lifted
lift_not_root : (e : Expr) → is_root (lift e) ≡ false
lift_not_root root = refl
lift_not_root row_index = refl
lift_not_root (literal d v) = refl
lift_not_root (unary u e) = refl
lift_not_root (binary b x y) = refl
lift_not_root (pack ps n) = refl

mutual
  lifted_back : (e : Expr) → AtMost the_child (use_of (lift e)) → step_into (lift e) ≡ e
  lifted_back root a = refl
  lifted_back row_index a = absurd (child_is_not_row a)
  lifted_back (literal d v) a = refl
  lifted_back (unary u e) a = go (is_root (lift e)) (lift_not_root e) a (lifted_back e)
    where
      go : (b : Bool) → b ≡ false → AtMost the_child (or_use (cond b (root_item u) None) (use_of (lift e))) → (AtMost the_child (use_of (lift e)) → step_into (lift e) ≡ e) → or_root (cond b (root_item u) None) (unary u (step_into (lift e))) ≡ unary u e
      go true r a f = absurd (clash (sym r))
      go false r a f = ap (unary u) (f a)
  lifted_back (binary b x y) a =
      let hs = both-split the_child (use_of (lift x)) (use_of (lift y)) a in
      ap (λ z. binary b z (step_into (lift y))) (lifted_back x hs.0) ∙ ap (binary b x) (lifted_back y hs.1)
  lifted_back (pack ps n) a = ap (λ qs. pack qs n) (all_lifted_back ps a)

  all_lifted_back : (ps : Parts) → AtMost the_child (uses_of (lift_all ps)) → step_into_all (lift_all ps) ≡ ps
  all_lifted_back no_parts a = refl
  all_lifted_back (part n e ps) a =
      let hs = both-split the_child (use_of (lift e)) (uses_of (lift_all ps)) a in
      ap (λ z. part n z (step_into_all (lift_all ps))) (lifted_back e hs.0) ∙ ap (part n e) (all_lifted_back ps hs.1)

-- ---- cuts
-- a cut reads the row's number, or the child, of which it needs what is wanted
abbrev pub RowCut : DataType → (Path → Type 0) → Item → Expr → Type 0
RowCut s T i x = (i ≡ the_row) ⊎ ((i ≡ the_child) × (is_used (use_of x) ≡ true) × ((q : Path) → Needs s (step_into x) whole q → T q))

-- each item is one of the two
abbrev ItemIn : Use → Type 0
ItemIn no_use = Unit {0}
ItemIn (one i) = (i ≡ the_row) ⊎ (i ≡ the_child)
ItemIn many = Unit {0}

both_in : (u w : Use) → ItemIn u → ItemIn w → ItemIn (both u w)
both_in no_use w p q = q
both_in (one i) no_use p q = p
both_in (one i) (one j) p q = go (same_item i j)
  where
    go : (b : Bool) → ItemIn (cond b (one i) many)
    go true = p
    go false = tt
both_in (one i) many p q = tt
both_in many w p q = tt

mutual
  lift_in : (e : Expr) → ItemIn (use_of (lift e))
  lift_in root = inr refl
  lift_in row_index = inl refl
  lift_in (literal d v) = tt
  lift_in (unary u e) = go (is_root (lift e)) (lift_not_root e) (lift_in e)
    where
      go : (b : Bool) → b ≡ false → ItemIn (use_of (lift e)) → ItemIn (or_use (cond b (root_item u) None) (use_of (lift e)))
      go true r h = absurd (clash (sym r))
      go false r h = h
  lift_in (binary b x y) = both_in (use_of (lift x)) (use_of (lift y)) (lift_in x) (lift_in y)
  lift_in (pack ps n) = all_lift_in ps

  all_lift_in : (ps : Parts) → ItemIn (uses_of (lift_all ps))
  all_lift_in no_parts = tt
  all_lift_in (part n e ps) = both_in (use_of (lift e)) (uses_of (lift_all ps)) (lift_in e) (all_lift_in ps)

module _ (s : DataType) (T : Path → Type 0) where
  row_cut : (w : Use) (e : Expr) (cs : List Cut) (k : Demand) → w ≡ use_of (lift e) → ItemIn w → WholeWhereOne w k → ((p : Path) → Needs s e k p → T p) → (NotOne w → CutsAll (RowCut s T) cs) → CutsAll (RowCut s T) (cut_or w (lift e) cs)
  row_cut no_use e cs k u o w f g = g tt
  row_cut (one i) e cs k u (inl o) w f g = (inl o, tt)
  row_cut (one i) e cs k u (inr o) w f g =
      (inr (o, ap is_used (sym u), λ q h. subst (λ k. (p : Path) → Needs s e k p → T p) w f q (subst (λ x. Needs s x whole q) (lifted_back e (subst (AtMost the_child) u (sym o))) h)), tt)
  row_cut many e cs k u o w f g = g tt

  mutual
    pub row_cuts : (e : Expr) (k : Demand) → WholeWhereOne (use_of (lift e)) k → ((p : Path) → Needs s e k p → T p) → CutsAll (RowCut s T) (cuts (lift e))
    row_cuts root k w f = row_cut (use_of (lift root)) root [] k refl (lift_in root) w f (λ n. tt)
    row_cuts row_index k w f = row_cut (use_of (lift row_index)) row_index [] k refl (lift_in row_index) w f (λ n. tt)
    row_cuts (literal d v) k w f = tt
    row_cuts (unary u e) k w f =
        row_cut (use_of (lift (unary u e))) (unary u e) (cuts (lift e)) k refl (lift_in (unary u e)) w f
        (λ n. row_cuts e (asked u (struct_fields (infer s e)) k) (not_one_whole (item_of u (lift e)) (use_of (lift e)) (asked u (struct_fields (infer s e)) k) n) f)
    row_cuts (binary b x y) k w f =
        row_cut (use_of (lift (binary b x y))) (binary b x y) (cuts (lift x) ++ cuts (lift y)) k refl (lift_in (binary b x y)) w f
        (λ n. all_append (RowCut s T) (cuts (lift x)) (cuts (lift y)) (row_cuts x whole (whole_any (use_of (lift x))) (λ p g. f p (inl g))) (row_cuts y whole (whole_any (use_of (lift y))) (λ p g. f p (inr g))))
    row_cuts (pack ps m) k w f = row_cut (use_of (lift (pack ps m))) (pack ps m) (all_cuts (lift_all ps)) k refl (lift_in (pack ps m)) w f (λ n. all_row_cuts ps f)

    all_row_cuts : (ps : Parts) → ((p : Path) → AnyNeeds s ps p → T p) → CutsAll (RowCut s T) (all_cuts (lift_all ps))
    all_row_cuts no_parts f = tt
    all_row_cuts (part m e ps) f =
        all_append (RowCut s T) (cuts (lift e)) (all_cuts (lift_all ps)) (row_cuts e whole (whole_any (use_of (lift e))) (λ p g. f p (inl g))) (all_row_cuts ps (λ p g. f p (inr g)))

-- ---- parts
module _ (s : DataType) (e : Expr) where
  abbrev pub Wanted : Path → Type 0
  Wanted p = Needs s e whole p

  pub row_groups : GroupsAll (RowCut s Wanted) (groups_of (cuts (lift e)))
  row_groups = collected_all (RowCut s Wanted) [] (cuts (lift e)) tt (row_cuts s Wanted e whole (whole_any (use_of (lift e))) (λ p h. h))

  child_cut : (x : Expr) → RowCut s Wanted the_child x → (is_used (use_of x) ≡ true) × ((q : Path) → Needs s (step_into x) whole q → Wanted q)
  child_cut x (inl h) = absurd (child_is_not_row h)
  child_cut x (inr h) = (h.1, h.2)

  steps_wanted : (es : List Expr) (q : Path) → AllOf (RowCut s Wanted) the_child es → AnyStepNeeds s es q → Wanted q
  steps_wanted [] q a h = absurd h
  steps_wanted (x ∷ xs) q a (inl h) = (child_cut x a.0).1 q h
  steps_wanted (x ∷ xs) q a (inr h) = steps_wanted xs q a.1 h

  pub child_lies : (es : List Expr) → SomeOf (RowCut s Wanted) the_child es → LiesUnder s (step_into (part_of es)) [] s e
  child_lies [] a = absurd a
  child_lies (x ∷ xs) a = λ q. (read q, λ h. named s e q (read q (sym (used_is s (step_into (part_of (x ∷ xs))) q (part_uses s x xs (child_cut x a.0).0)) ∙ h)))
    where
      read : (q : Path) → needs s (step_into (part_of (x ∷ xs))) whole q ≡ true → needs s e whole q ≡ true
      read q h = needs_tests s e whole q (steps_wanted (x ∷ xs) q a (part_needs s x xs q (needs_told s (step_into (part_of (x ∷ xs))) whole q h)))

  part_lies : (i : Item) (es : List Expr) → SomeOf (RowCut s Wanted) i es → OfChild (partition_of i) (LiesUnder (item_type (struct_fields (numbered_scope s)) i) (step_into (part_of es)) [] s e)
  part_lies i [] a = absurd a
  part_lies i (x ∷ xs) a = go a.0 a
    where
      go : RowCut s Wanted i x → SomeOf (RowCut s Wanted) i (x ∷ xs) → OfChild (partition_of i) (LiesUnder (item_type (struct_fields (numbered_scope s)) i) (step_into (part_of (x ∷ xs))) [] s e)
      go (inl h) b = subst (λ j. OfChild (partition_of j) (LiesUnder (item_type (struct_fields (numbered_scope s)) j) (step_into (part_of (x ∷ xs))) [] s e)) (sym h) tt
      go (inr h) b = subst (λ j. SomeOf (RowCut s Wanted) j (x ∷ xs) → OfChild (partition_of j) (LiesUnder (item_type (struct_fields (numbered_scope s)) j) (step_into (part_of (x ∷ xs))) [] s e)) (sym h.0) (child_lies (x ∷ xs)) b

  parts_lie : (gs : List Group) → GroupsAll (RowCut s Wanted) gs → EachOfChild (bound_of s e) (map partition_of (map (λ (g : Group). g.0) gs)) (map (group_part (stepped (numbered_scope s))) gs)
  parts_lie [] a = tt
  parts_lie (g ∷ gs) a = (part_lies g.0 g.1 a.0, parts_lie gs a.1)

  split_lies : (a b : Bool) → RowSplitNeedsNoMore (bound_of s e) (row_split_by a b s e)
  split_lies true true = parts_lie (groups_of (cuts (lift e))) row_groups
  split_lies true false = tt
  split_lies false true = λ q. (λ h. h, λ h. h)
  split_lies false false = parts_lie (groups_of (cuts (lift e))) row_groups

pub row_parts_need : RowPartsNeedNoMore
row_parts_need b = split_lies b.scope b.expr (uses_row_index b.expr) (uses_root b.expr)
