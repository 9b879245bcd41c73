-- What the parts of an expression need.
use Rattle.std.proofs.Common.{◌≡◌, ◌⊎◌, inl, inr, ℕ, ◌+◌, Bool, true, false, cond, List, [], ◌∷◌, ◌++◌, map, Option, Some, None, refl, ap, sym, subst, ◌∙◌}
use Rattle.scan_values.specs.DataType.{DataType, struct_type, Fields, nullability_of}
use Rattle.scan_values.specs.declared.ptype.Nullability.{Nullability}
use Rattle.scan_values.specs.Paths.{Path}
use Rattle.scan_expr.specs.Bound.{bound_of}
use Rattle.scan_expr.specs.Expr.{Expr, root, row_index, literal, unary, binary, pack, Parts, no_parts, part}
use Rattle.scan_expr.specs.Infer.{infer, struct_fields}
use Rattle.scan_expr.specs.Needs.{Demand, whole, asked, uses, uses_all, needs, has_none, list_validity, needed, is_leaf_of_any}
use Rattle.scan_partition.specs.declared.item.Item.{Item}
use Rattle.scan_partition.specs.declared.struct_.Partitioned.TheVariants.{Direct}
use Rattle.scan_partition.specs.Items.{AtMost, item_of, Use, no_use, one, many, or_use, use_of, IsExpanded, AreExpanded}
use Rattle.scan_partition.specs.Direct.{Choice, chosen_directly, projected}
use Rattle.scan_partition.specs.Expand.{expand}
use Rattle.scan_partition.specs.Partition.{Cut, Group, cut_or, cuts, all_cuts, groups_of, numbered, part_of, step_into, step_into_all}
use Rattle.scan_partition.specs.Divided.{group_part, kept, stepped}
use Rattle.scan_partition.specs.Rows.{Distinct, item_type}
use Rattle.scan_partition.specs.Had.{IsItemOf}
use Rattle.scan_partition.specs.Found.{NamesFound}
use Rattle.scan_partition.specs.Split.{split, split_by, split_by_items, direct_or}
use Rattle.scan_partition.specs.Needing.{item_step, item_path, LiesUnder, EachLiesUnder, SplitNeedsNoMore, PartsNeedNoMore, KeptPartsNeedNoMore}
use Rattle.scan_partition.proofs.Parted.{NotOne, expanded_part}
use Rattle.scan_partition.proofs.Expanded.{expand-expanded}
use Rattle.scan_partition.proofs.Partable.{partable_over}
use Rattle.scan_partition.proofs.Having.{CutsOf, cuts_items, expand-items}
use Rattle.scan_partition.proofs.Uses.{cuts_of_one}
use Rattle.scan_partition.proofs.Dividing.{CutsAll, all_append, AllOf, SomeOf, GroupsAll, collected_all}
use Rattle.scan_partition.proofs.Wants.{Needs, AnyNeeds}
use Rattle.scan_partition.proofs.Tested.{needs_told, needs_tests}
use Rattle.scan_partition.proofs.Needed.{expand_needs, step_into_needs}
use Rattle.scan_partition.proofs.NoUses.{named_is, used_is, is_used, stepped_uses, some_first, own_uses, unused, clash}
use Rattle.scan_partition.proofs.ChosenNeeds.{chosen_needed, chosen_back}

-- ---- what a cut needs is wanted
abbrev pub CutNeeds : DataType → (Path → Type 0) → Item → Expr → Type 0
CutNeeds s T i e = IsExpanded e × (use_of e ≡ one i) × ((p : Path) → Needs s e whole p → T p)

-- a cut is asked for the whole, since operators on one part cut below themselves only where they cut nothing
abbrev pub WholeWhereOne : Use → Demand → Type 0
WholeWhereOne no_use k = Unit {0}
WholeWhereOne (one i) k = k ≡ whole
WholeWhereOne many k = Unit {0}

pub whole_any : (w : Use) → WholeWhereOne w whole
whole_any no_use = tt
whole_any (one i) = refl
whole_any many = tt

pub not_one_whole : (o : Option Item) (w : Use) (k : Demand) → NotOne (or_use o w) → WholeWhereOne w k
not_one_whole None no_use k h = tt
not_one_whole None (one i) k h = absurd h
not_one_whole None many k h = tt
not_one_whole (Some j) w k h = absurd h

cut_by : (s : DataType) (T : Path → Type 0) (w : Use) (e : Expr) (cs : List Cut) (k : Demand) → w ≡ use_of e → IsExpanded e → WholeWhereOne w k → ((p : Path) → Needs s e k p → T p) → (NotOne w → CutsAll (CutNeeds s T) cs) → CutsAll (CutNeeds s T) (cut_or w e cs)
cut_by s T no_use e cs k u x w f g = g tt
cut_by s T (one i) e cs k u x w f g = ((x, sym u, subst (λ k. (p : Path) → Needs s e k p → T p) w f), tt)
cut_by s T many e cs k u x w f g = g tt

mutual
  pub cuts_need : (s : DataType) (T : Path → Type 0) (e : Expr) (k : Demand) → IsExpanded e → WholeWhereOne (use_of e) k → ((p : Path) → Needs s e k p → T p) → CutsAll (CutNeeds s T) (cuts e)
  cuts_need s T root k x w f = absurd x
  cuts_need s T row_index k x w f = tt
  cuts_need s T (literal d v) k x w f = tt
  cuts_need s T (unary u e) k x w f =
      cut_by s T (use_of (unary u e)) (unary u e) (cuts e) k refl x w f
      (λ n. cuts_need s T e (asked u (struct_fields (infer s e)) k) (expanded_part (item_of u e) (use_of e) (IsExpanded e) n x) (not_one_whole (item_of u e) (use_of e) (asked u (struct_fields (infer s e)) k) n) f)
  cuts_need s T (binary b x y) k h w f =
      cut_by s T (use_of (binary b x y)) (binary b x y) (cuts x ++ cuts y) k refl h w f
      (λ _. all_append (CutNeeds s T) (cuts x) (cuts y) (cuts_need s T x whole h.0 (whole_any (use_of x)) (λ p g. f p (inl g))) (cuts_need s T y whole h.1 (whole_any (use_of y)) (λ p g. f p (inr g))))
  cuts_need s T (pack ps n) k x w f = cut_by s T (use_of (pack ps n)) (pack ps n) (all_cuts ps) k refl x w f (λ _. all_cuts_need s T ps x f)

  all_cuts_need : (s : DataType) (T : Path → Type 0) (ps : Parts) → AreExpanded ps → ((p : Path) → AnyNeeds s ps p → T p) → CutsAll (CutNeeds s T) (all_cuts ps)
  all_cuts_need s T no_parts x f = tt
  all_cuts_need s T (part n e ps) x f =
      all_append (CutNeeds s T) (cuts e) (all_cuts ps) (cuts_need s T e whole x.0 (whole_any (use_of e)) (λ p g. f p (inl g))) (all_cuts_need s T ps x.1 (λ p g. f p (inr g)))

-- ---- parts
abbrev pub AnyStepNeeds : DataType → List Expr → Path → Type 0
AnyStepNeeds d [] q = ⊥
AnyStepNeeds d (e ∷ es) q = Needs d (step_into e) whole q ⊎ AnyStepNeeds d es q

numbered_need : (d : DataType) (k : ℕ) (es : List Expr) (q : Path) → AnyNeeds d (step_into_all (numbered k es)) q → AnyStepNeeds d es q
numbered_need d k [] q h = h
numbered_need d k (e ∷ es) q (inl h) = inl h
numbered_need d k (e ∷ es) q (inr h) = inr (numbered_need d (k + 1) es q h)

pub part_needs : (d : DataType) (e : Expr) (es : List Expr) (q : Path) → Needs d (step_into (part_of (e ∷ es))) whole q → AnyStepNeeds d (e ∷ es) q
part_needs d e [] q h = inl h
part_needs d e (f ∷ es) q h = numbered_need d 0 (e ∷ f ∷ es) q h

pub part_uses : (d : DataType) (e : Expr) (es : List Expr) → is_used (use_of e) ≡ true → has_none (uses d (step_into (part_of (e ∷ es))) whole) ≡ false
part_uses d e [] h = stepped_uses d e whole h
part_uses d e (f ∷ es) h = some_first (uses d (step_into e) whole) (uses_all d (step_into_all (numbered 1 (f ∷ es)))) (stepped_uses d e whole h)

-- a cut of an item that the struct has
abbrev pub ItemNeeds : Fields → Nullability → Expr → Item → Expr → Type 0
ItemNeeds fs n e i x = CutNeeds (struct_type fs n) (λ p. Needs (struct_type fs n) e whole p) i x × IsItemOf fs n i

module _ (fs : Fields) (n : Nullability) (e : Expr) where
  steps_need : (i : Item) (es : List Expr) (q : Path) → AllOf (ItemNeeds fs n e) i es → AnyStepNeeds (item_type fs i) es q → Needs (struct_type fs n) e whole (item_step i ∷ q)
  steps_need i [] q a h = absurd h
  steps_need i (x ∷ xs) q a (inl h) = a.0.0.2 (item_step i ∷ q) (step_into_needs fs n i a.0.1 x whole q a.0.0.0 (subst (AtMost i) (sym a.0.0.1) refl) h)
  steps_need i (x ∷ xs) q a (inr h) = steps_need i xs q a.1 h

  part_lies : (i : Item) (es : List Expr) → SomeOf (ItemNeeds fs n e) i es → LiesUnder (item_type fs i) (step_into (part_of es)) (item_step i ∷ []) (struct_type fs n) e
  part_lies i [] a = absurd a
  part_lies i (x ∷ xs) a = λ q. (read q, λ h. named_is fs n e (item_step i ∷ q) ∙ read q (sym (used_is (item_type fs i) (step_into (part_of (x ∷ xs))) q (part_uses (item_type fs i) x xs (ap is_used a.0.0.1))) ∙ h))
    where
      read : (q : Path) → needs (item_type fs i) (step_into (part_of (x ∷ xs))) whole q ≡ true → needs (struct_type fs n) e whole (item_step i ∷ q) ≡ true
      read q h = needs_tests (struct_type fs n) e whole (item_step i ∷ q) (steps_need i (x ∷ xs) q a (part_needs (item_type fs i) x xs q (needs_told (item_type fs i) (step_into (part_of (x ∷ xs))) whole q h)))

  parts_lie : (gs : List Group) → GroupsAll (ItemNeeds fs n e) gs → EachLiesUnder item_path (bound_of (struct_type fs n) e) (map (λ (g : Group). g.0) gs) (map (group_part (stepped (struct_type fs n))) gs)
  parts_lie [] a = tt
  parts_lie (g ∷ gs) a = (part_lies g.0 g.1 a.0, parts_lie gs a.1)

  with_items : (cs : List Cut) → CutsAll (CutNeeds (struct_type fs n) (λ p. Needs (struct_type fs n) e whole p)) cs → CutsOf fs n cs → CutsAll (ItemNeeds fs n e) cs
  with_items [] a b = tt
  with_items (c ∷ cs) a b = ((a.0, b.0), with_items cs a.1 b.1)

  module _ (d : Distinct fs) (f : NamesFound fs e) where
    cuts_hold : CutsAll (ItemNeeds fs n e) (cuts (expand (struct_type fs n) e))
    cuts_hold =
        with_items (cuts (expand (struct_type fs n) e))
        (cuts_need (struct_type fs n) (λ p. Needs (struct_type fs n) e whole p) (expand (struct_type fs n) e) whole (expand-expanded (struct_type fs n) e) (whole_any (use_of (expand (struct_type fs n) e))) (λ p h. expand_needs fs n d e whole p (λ _. refl) h))
        (cuts_items fs n (expand (struct_type fs n) e) (expand-items fs n e f))

    groups_hold : GroupsAll (ItemNeeds fs n e) (groups_of (cuts (expand (struct_type fs n) e)))
    groups_hold = collected_all (ItemNeeds fs n e) [] (cuts (expand (struct_type fs n) e)) tt cuts_hold

    alone_lies : (i : Item) → use_of (expand (struct_type fs n) e) ≡ one i → LiesUnder (item_type fs i) (step_into (expand (struct_type fs n) e)) (item_path i) (struct_type fs n) e
    alone_lies i u = part_lies i (expand (struct_type fs n) e ∷ []) ((subst (CutsAll (ItemNeeds fs n e)) (cuts_of_one (expand (struct_type fs n) e) i u) cuts_hold).0, tt)

    several_lie : EachLiesUnder item_path (bound_of (struct_type fs n) e) (map (λ (g : Group). g.0) (groups_of (cuts (expand (struct_type fs n) e)))) (map (group_part (stepped (struct_type fs n))) (groups_of (cuts (expand (struct_type fs n) e))))
    several_lie = parts_lie (groups_of (cuts (expand (struct_type fs n) e))) groups_hold

    split_lies : SplitNeedsNoMore (bound_of (struct_type fs n) e) (split_by_items (struct_type fs n) (expand (struct_type fs n) e))
    split_lies = go (use_of (expand (struct_type fs n) e)) refl
      where
        go : (w : Use) → use_of (expand (struct_type fs n) e) ≡ w → SplitNeedsNoMore (bound_of (struct_type fs n) e) (split_by w (struct_type fs n) (expand (struct_type fs n) e))
        go no_use u = several_lie
        go (one i) u = alone_lies i u
        go many u = several_lie

    direct_needs : (c : Choice) → chosen_directly (struct_type fs n) e ≡ Some c → SplitNeedsNoMore (bound_of (struct_type fs n) e) (Direct (projected fs c))
    direct_needs c h = λ p. chosen_needed fs n e c p d h ∙ ap (λ ns. is_leaf_of_any fs ns p) (chosen_back fs n e c f h)

    all_lie : SplitNeedsNoMore (bound_of (struct_type fs n) e) (split (struct_type fs n) e)
    all_lie = go (chosen_directly (struct_type fs n) e) refl
      where
        go : (o : Option Choice) → chosen_directly (struct_type fs n) e ≡ o → SplitNeedsNoMore (bound_of (struct_type fs n) e) (direct_or o (struct_type fs n) e)
        go None h = split_lies
        go (Some c) h = direct_needs c h

pub parts_need : PartsNeedNoMore
parts_need b p st = let o = partable_over b p st in subst (λ (t : DataType). SplitNeedsNoMore (bound_of t b.expr) (split t b.expr)) st (all_lie (struct_fields b.scope) (nullability_of b.scope) b.expr o.distinct o.found)

-- ---- parts that are kept
-- over any scope, what is needed is named
pub named : (s : DataType) (e : Expr) (p : Path) → needs s e whole p ≡ true → needed s e p ≡ true
named s e p h = go (has_none (uses s e whole)) (unused s e whole p)
  where
    go : (b : Bool) → (b ≡ true → needs s e whole p ≡ false) → cond b (list_validity s p) (needs s e whole p) ≡ true
    go true f = absurd (clash (sym (f refl) ∙ h))
    go false f = h

kept_uses : (s : DataType) (x : Expr) (xs : List Expr) → is_used (use_of x) ≡ true → has_none (uses s (part_of (x ∷ xs)) whole) ≡ false
kept_uses s x [] h = own_uses s x whole h
kept_uses s x (y ∷ xs) h = some_first (uses s x whole) (uses_all s (numbered 1 (y ∷ xs))) (own_uses s x whole h)

module _ (s : DataType) (e : Expr) where
  abbrev Wanted : Path → Type 0
  Wanted p = Needs s e whole p

  abbrev AnyNeed : List Expr → Path → Type 0
  AnyNeed [] q = ⊥
  AnyNeed (x ∷ xs) q = Needs s x whole q ⊎ AnyNeed xs q

  numbered_kept : (k : ℕ) (es : List Expr) (q : Path) → AnyNeeds s (numbered k es) q → AnyNeed es q
  numbered_kept k [] q h = h
  numbered_kept k (x ∷ xs) q (inl h) = inl h
  numbered_kept k (x ∷ xs) q (inr h) = inr (numbered_kept (k + 1) xs q h)

  part_kept : (x : Expr) (xs : List Expr) (q : Path) → Needs s (part_of (x ∷ xs)) whole q → AnyNeed (x ∷ xs) q
  part_kept x [] q h = inl h
  part_kept x (y ∷ xs) q h = numbered_kept 0 (x ∷ y ∷ xs) q h

  any_wanted : (i : Item) (es : List Expr) (q : Path) → AllOf (CutNeeds s Wanted) i es → AnyNeed es q → Wanted q
  any_wanted i [] q a h = absurd h
  any_wanted i (x ∷ xs) q a (inl h) = a.0.2 q h
  any_wanted i (x ∷ xs) q a (inr h) = any_wanted i xs q a.1 h

  kept_lies : (i : Item) (es : List Expr) → SomeOf (CutNeeds s Wanted) i es → LiesUnder s (part_of es) [] s e
  kept_lies i [] a = absurd a
  kept_lies i (x ∷ xs) a = λ q. (read q, λ h. named s e q (read q (sym (named_part q) ∙ h)))
    where
      read : (q : Path) → needs s (part_of (x ∷ xs)) whole q ≡ true → needs s e whole q ≡ true
      read q h = needs_tests s e whole q (any_wanted i (x ∷ xs) q a (part_kept x xs q (needs_told s (part_of (x ∷ xs)) whole q h)))

      named_part : (q : Path) → needed s (part_of (x ∷ xs)) q ≡ needs s (part_of (x ∷ xs)) whole q
      named_part q = used_is s (part_of (x ∷ xs)) q (kept_uses s x xs (ap is_used a.0.1))

  kept_lie : (gs : List Group) → GroupsAll (CutNeeds s Wanted) gs → EachLiesUnder (λ i. []) (bound_of s e) (map (λ (g : Group). g.0) gs) (map (group_part (kept s)) gs)
  kept_lie [] a = tt
  kept_lie (g ∷ gs) a = (kept_lies g.0 g.1 a.0, kept_lie gs a.1)

pub kept_need : KeptPartsNeedNoMore
kept_need b x =
    kept_lie b.scope b.expr (groups_of (cuts b.expr))
    (collected_all (CutNeeds b.scope (λ p. Needs b.scope b.expr whole p)) [] (cuts b.expr) tt (cuts_need b.scope (λ p. Needs b.scope b.expr whole p) b.expr whole x (whole_any (use_of b.expr)) (λ p h. h)))
