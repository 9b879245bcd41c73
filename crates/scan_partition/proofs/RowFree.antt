-- The parts by the row's number and the child: over what they read, and without a row's number.
use Rattle.std.proofs.Common.{◌≡◌, ℕ, ◌+◌, Bool, true, false, cond, ◌||◌, Option, Some, None, List, [], ◌∷◌, ◌++◌, map, refl, ap, ◌∙◌}
use Rattle.scan_values.specs.DataType.{DataType}
use Rattle.scan_expr.specs.Bound.{bound_of}
use Rattle.scan_expr.specs.Infer.{struct_fields}
use Rattle.scan_expr.specs.Expr.{is_root, Expr, root, row_index, literal, unary, binary, pack, Parts, no_parts, part, uses_row_index, any_uses_row_index}
use Rattle.scan_expr.specs.declared.op.Unary.{Unary}
use Rattle.scan_partition.specs.declared.item.Item.{Item}
use Rattle.scan_partition.specs.declared.row_idx.Partitioning.TheVariants.{RowIdx, Child, Both}
use Rattle.scan_partition.specs.Items.{same_item, root_item, item_of, Use, no_use, one, many, both, or_use, use_of, uses_of}
use Rattle.scan_partition.specs.Lift.{lift, lift_all}
use Rattle.scan_partition.specs.Partition.{Cut, Group, or_root, step_into, step_into_all, cut_or, cuts, all_cuts, cuts_of, count_item, groups_of, numbered, part_of, leaf_of, leaf_or, root_of, roots_of}
use Rattle.scan_partition.specs.Rows.{item_type}
use Rattle.scan_partition.specs.Divided.{stepped, group_part}
use Rattle.scan_partition.specs.RowDivided.{number_type, over_number, all_over_number, numbered_scope, partition_of, row_divided}
use Rattle.scan_partition.specs.RowSplit.{read_type, PartsOver, AreOver}
use Rattle.scan_partition.proofs.Lifted.{lift-expanded}
use Rattle.scan_partition.proofs.Expanded.{not_root}
use Rattle.scan_partition.proofs.Dividing.{CutsAll, SomeOf, AllOf, GroupsAll, collected_all}

pub neither : (a b : Bool) → a ≡ false → b ≡ false → a || b ≡ false
neither a b h k = ap (λ c. c || b) h ∙ k

-- ---- without a row's number
mutual
  lift_free : (e : Expr) → uses_row_index (lift e) ≡ false
  lift_free root = refl
  lift_free row_index = refl
  lift_free (literal d m) = refl
  lift_free (unary u e) = lift_free e
  lift_free (binary b x y) = neither (uses_row_index (lift x)) (uses_row_index (lift y)) (lift_free x) (lift_free y)
  lift_free (pack ps n) = lift_all_free ps

  lift_all_free : (ps : Parts) → any_uses_row_index (lift_all ps) ≡ false
  lift_all_free no_parts = refl
  lift_all_free (part n e ps) = neither (uses_row_index (lift e)) (any_uses_row_index (lift_all ps)) (lift_free e) (lift_all_free ps)

mutual
  number_free : (e : Expr) → uses_row_index (over_number e) ≡ false
  number_free root = refl
  number_free row_index = refl
  number_free (literal d m) = refl
  number_free (unary u e) = number_free e
  number_free (binary b x y) = neither (uses_row_index (over_number x)) (uses_row_index (over_number y)) (number_free x) (number_free y)
  number_free (pack ps n) = all_number_free ps

  all_number_free : (ps : Parts) → any_uses_row_index (all_over_number ps) ≡ false
  all_number_free no_parts = refl
  all_number_free (part n e ps) = neither (uses_row_index (over_number e)) (any_uses_row_index (all_over_number ps)) (number_free e) (all_number_free ps)

pub split : (a b : Bool) → a || b ≡ false → (a ≡ false) × (b ≡ false)
split true b h = ((cc), (cc))
split false b h = (refl, h)

or_root_free : (o : Option Item) (e : Expr) → uses_row_index e ≡ false → uses_row_index (or_root o e) ≡ false
or_root_free None e h = h
or_root_free (Some i) e h = refl

mutual
  step_free : (e : Expr) → uses_row_index e ≡ false → uses_row_index (step_into e) ≡ false
  step_free root h = refl
  step_free row_index h = h
  step_free (literal d m) h = refl
  step_free (unary u e) h = or_root_free (item_of u e) (unary u (step_into e)) (step_free e h)
  step_free (binary b x y) h = let a = split (uses_row_index x) (uses_row_index y) h in neither (uses_row_index (step_into x)) (uses_row_index (step_into y)) (step_free x a.0) (step_free y a.1)
  step_free (pack ps n) h = step_all_free ps h

  step_all_free : (ps : Parts) → any_uses_row_index ps ≡ false → any_uses_row_index (step_into_all ps) ≡ false
  step_all_free no_parts h = refl
  step_all_free (part n e ps) h = let a = split (uses_row_index e) (any_uses_row_index ps) h in neither (uses_row_index (step_into e)) (any_uses_row_index (step_into_all ps)) (step_free e a.0) (step_all_free ps a.1)

leaf_free : (es : List Expr) (i : Item) (k : ℕ) → uses_row_index (leaf_of es i k) ≡ false
leaf_free [] i k = refl
leaf_free (e ∷ []) i k = refl
leaf_free (e ∷ f ∷ es) i k = refl

or_leaf_free : (w : Use) (all before : List Cut) (e : Expr) → uses_row_index e ≡ false → uses_row_index (leaf_or w all before e) ≡ false
or_leaf_free no_use all before e h = h
or_leaf_free (one i) all before e h = leaf_free (cuts_of i all) i (count_item i before)
or_leaf_free many all before e h = h

mutual
  pub root_free : (all before : List Cut) (e : Expr) → uses_row_index e ≡ false → uses_row_index (root_of all before e) ≡ false
  root_free all before root h = refl
  root_free all before row_index h = h
  root_free all before (literal d m) h = refl
  root_free all before (unary u e) h = or_leaf_free (use_of (unary u e)) all before (unary u (root_of all before e)) (root_free all before e h)
  root_free all before (binary b x y) h =
      let a = split (uses_row_index x) (uses_row_index y) h in
      or_leaf_free (use_of (binary b x y)) all before (binary b (root_of all before x) (root_of all (before ++ cuts x) y)) (neither (uses_row_index (root_of all before x)) (uses_row_index (root_of all (before ++ cuts x) y)) (root_free all before x a.0) (root_free all (before ++ cuts x) y a.1))
  root_free all before (pack ps n) h = or_leaf_free (use_of (pack ps n)) all before (pack (roots_of all before ps) n) (roots_free all before ps h)

  roots_free : (all before : List Cut) (ps : Parts) → any_uses_row_index ps ≡ false → any_uses_row_index (roots_of all before ps) ≡ false
  roots_free all before no_parts h = refl
  roots_free all before (part n e ps) h =
      let a = split (uses_row_index e) (any_uses_row_index ps) h in
      neither (uses_row_index (root_of all before e)) (any_uses_row_index (roots_of all (before ++ cuts e) ps)) (root_free all before e a.0) (roots_free all (before ++ cuts e) ps a.1)

-- ---- the items
module _ (s : DataType) where
  -- an item's dtype is what its partition reads
  abbrev IsRead : Item → Type 0
  IsRead i = item_type (struct_fields (numbered_scope s)) i ≡ read_type s (partition_of i)

  abbrev UseIsRead : Use → Type 0
  UseIsRead no_use = Unit {0}
  UseIsRead (one i) = IsRead i
  UseIsRead many = Unit {0}

  both_read : (u w : Use) → UseIsRead u → UseIsRead w → UseIsRead (both u w)
  both_read no_use w p q = q
  both_read (one i) no_use p q = p
  both_read (one i) (one j) p q = go (same_item i j)
    where
      go : (b : Bool) → UseIsRead (cond b (one i) many)
      go true = p
      go false = tt
  both_read (one i) many p q = tt
  both_read many w p q = tt

  under_read : (u : Unary) (b : Bool) (w : Use) → b ≡ false → UseIsRead w → UseIsRead (or_use (cond b (root_item u) None) w)
  under_read u true w h p = absurd (clash h)
    where
      clash : true ≡ false → ⊥
      clash h = cc
  under_read u false w h p = p

  mutual
    use_read : (e : Expr) → UseIsRead (use_of (lift e))
    use_read root = refl
    use_read row_index = refl
    use_read (literal d m) = tt
    use_read (unary u e) = under_read u (is_root (lift e)) (use_of (lift e)) (not_root (lift e) (lift-expanded e)) (use_read e)
    use_read (binary b x y) = both_read (use_of (lift x)) (use_of (lift y)) (use_read x) (use_read y)
    use_read (pack ps n) = uses_read ps

    uses_read : (ps : Parts) → UseIsRead (uses_of (lift_all ps))
    uses_read no_parts = tt
    uses_read (part n e ps) = both_read (use_of (lift e)) (uses_of (lift_all ps)) (use_read e) (uses_read ps)

  -- ---- the cuts
  abbrev ReadOk : Item → Expr → Type 0
  ReadOk i e = IsRead i × (uses_row_index e ≡ false)

  append_read : (cs ds : List Cut) → CutsAll ReadOk cs → CutsAll ReadOk ds → CutsAll ReadOk (cs ++ ds)
  append_read [] ds a b = b
  append_read (c ∷ cs) ds a b = (a.0, append_read cs ds a.1 b)

  read_by : (w : Use) (e : Expr) (cs : List Cut) → UseIsRead w → uses_row_index e ≡ false → CutsAll ReadOk cs → CutsAll ReadOk (cut_or w e cs)
  read_by no_use e cs p f a = a
  read_by (one i) e cs p f a = ((p, f), tt)
  read_by many e cs p f a = a

  mutual
    cuts_read : (e : Expr) → CutsAll ReadOk (cuts (lift e))
    cuts_read root = ((refl, refl), tt)
    cuts_read row_index = ((refl, refl), tt)
    cuts_read (literal d m) = tt
    cuts_read (unary u e) = read_by (use_of (lift (unary u e))) (lift (unary u e)) (cuts (lift e)) (use_read (unary u e)) (lift_free (unary u e)) (cuts_read e)
    cuts_read (binary b x y) = read_by (use_of (lift (binary b x y))) (lift (binary b x y)) (cuts (lift x) ++ cuts (lift y)) (use_read (binary b x y)) (lift_free (binary b x y)) (append_read (cuts (lift x)) (cuts (lift y)) (cuts_read x) (cuts_read y))
    cuts_read (pack ps n) = read_by (use_of (lift (pack ps n))) (lift (pack ps n)) (all_cuts (lift_all ps)) (use_read (pack ps n)) (lift_free (pack ps n)) (all_cuts_read ps)

    all_cuts_read : (ps : Parts) → CutsAll ReadOk (all_cuts (lift_all ps))
    all_cuts_read no_parts = tt
    all_cuts_read (part n e ps) = append_read (cuts (lift e)) (all_cuts (lift_all ps)) (cuts_read e) (all_cuts_read ps)

  -- ---- the parts
  numbered_free : (i : Item) (k : ℕ) (es : List Expr) → AllOf ReadOk i es → any_uses_row_index (numbered k es) ≡ false
  numbered_free i k [] a = refl
  numbered_free i k (e ∷ es) a = neither (uses_row_index e) (any_uses_row_index (numbered (k + 1) es)) a.0.1 (numbered_free i (k + 1) es a.1)

  part_read : (i : Item) (es : List Expr) → SomeOf ReadOk i es → IsRead i × (uses_row_index (part_of es) ≡ false)
  part_read i [] a = absurd a
  part_read i (e ∷ []) a = a.0
  part_read i (e ∷ f ∷ es) a = (a.0.0, numbered_free i 0 (e ∷ f ∷ es) a)

  parts_over : (gs : List Group) → GroupsAll ReadOk gs → PartsOver s (map partition_of (map (λ (g : Group). g.0) gs)) (map (group_part (stepped (numbered_scope s))) gs)
  parts_over [] a = tt
  parts_over (g ∷ gs) a = let p = part_read g.0 g.1 a.0 in ((p.0, step_free (part_of g.1) p.1), parts_over gs a.1)

  pub both_over : (e : Expr) → AreOver s (Both (row_divided s e))
  both_over e = (parts_over (groups_of (cuts (lift e))) (collected_all ReadOk [] (cuts (lift e)) tt (cuts_read e)), root_free (cuts (lift e)) [] (lift e) (lift_free e))

  pub number_over : (e : Expr) → AreOver s (RowIdx (bound_of number_type (over_number e)))
  number_over e = (refl, number_free e)

  pub child_over : (e : Expr) → uses_row_index e ≡ false → AreOver s (Child (bound_of s e))
  child_over e h = (refl, h)
