-- Plans over row numbers and rows are plans of a reader that numbers them.
use Rattle.std.proofs.Common.{◌≡◌, ℕ, ◌==◌, ◌+◌, ◌<◌, ◌≤◌, Bool, true, false, not, ◌||◌, ◌&&◌, List, [], ◌∷◌, map, length, Some, refl, ap, sym, subst, ◌∙◌}
use Rattle.std.specs.Prelude.{if◌then◌else◌, is_some}
use Rattle.std.proofs.lemmas.List.Folds.{list_any-append}
use Rattle.scan_values.specs.DataType.{DataType}
use Rattle.scan_values.specs.Marked.{Markeds, struct}
use Rattle.scan_segments.specs.Source.{Store}
use Rattle.scan_spelling.specs.Places.{Place}
use Rattle.scan_expr.specs.Bound.{Bound}
use Rattle.scan_expr.specs.Expr.{Expr, uses_row_index}
use Rattle.scan_expr.specs.Eval.{eval}
use Rattle.scan_expr.specs.Overflow.{overflows}
use Rattle.scan_expr.specs.Needs.{needed}
use Rattle.scan_expr.proofs.Clean.{any_row}
use Rattle.scan_expr.proofs.Overflowing.{any_row_overflows}
use Rattle.scan_partition.specs.declared.row_idx.Partition.{Partition}
use Rattle.scan_partition.specs.declared.row_idx.Partition.TheVariants.{RowIdx as TheRowIdx, Child as TheChild}
use Rattle.scan_partition.specs.declared.row_idx.Partitioning.TheVariants.{Both}
use Rattle.scan_partition.specs.Divided.{stepped, type_of_part, group_part}
use Rattle.scan_partition.specs.Lift.{lift}
use Rattle.scan_partition.specs.Needing.{LiesUnder, OfChild, EachOfChild}
use Rattle.scan_partition.specs.Partition.{Group, cuts, groups_of, joined_fields}
use Rattle.scan_partition.specs.RowDivided.{RowDivided, uses_root, numbered_scope, partition_of, row_divided}
use Rattle.scan_partition.specs.RowSplit.{row_split, row_split_by, row_values, row_parts_overflow, joined_row_overflows, KeepsRows}
use Rattle.scan_plans.specs.Came.{Came, Holds}
use Rattle.scan_plans.specs.Formed.{IsNode}
use Rattle.scan_plans.specs.Meaning.{values_at, overflow_in, true_rows, AllWithin, AreFields}
use Rattle.scan_plans.specs.PlanData.{PlanData, plan_data}
use Rattle.scan_plans.specs.PlanTree.{PlanTree, over, plans}
use Rattle.scan_plans.specs.Wants.{wanted, all_wanted, names_id, spoiled, any_spoiled}
use Rattle.scan_readers.specs.Kept.{Kept, Stay, find_plan}
use Rattle.scan_readers.specs.PlanOf.{IsPlanOf, may_want, may_spoil}
use Rattle.scan_readers.specs.Readers.{ReaderState, number_of}
use Rattle.scan_readers.specs.RowIdxData.{numbered_state, kept_by_numbers}
use Rattle.scan_readers.specs.RowParts.{WantsPart, SpoilsPart, IsPartPlan, ArePartPlans}
use Rattle.scan_readers.proofs.SomePlace.{either, needed_more}

-- ---- booleans
none_of : (a b c : Bool) → b ≡ false → (a && (b && c)) ≡ false
none_of true b c h = rw h refl
none_of false b c h = refl

or_swap : (a b : Bool) → (a || b) ≡ (b || a)
or_swap true true = refl
or_swap true false = refl
or_swap false true = refl
or_swap false false = refl

-- ---- a part over the rows' numbers, and one over the rows
module _ (s : ReaderState) (number : ℕ) (p : Bound) where
  pub child_part : (q : PlanData) → IsPlanOf s p q → uses_row_index p.expr ≡ false → IsPartPlan s number TheChild p q.tree
  child_part q is free = record {
    dtype = is.dtype;
    rows = is.rows;
    numbered = is.numbered ∙ none_of (is_some s.first_number) (uses_row_index p.expr) (not (uses_root p.expr)) free;
    value = λ store k h. is.value store k h ∙ any_row p.scope p.expr (s.value store k) (number_of s.first_number k) 0 free;
    overflow = λ store k h. is.overflow store k h ∙ any_row_overflows p.scope p.expr (s.value store k) (number_of s.first_number k) 0 free;
    wants = is.wants;
    spoils = is.spoils;
  }

-- ---- an expression without row numbers
pub unnumbered_plan : (s : ReaderState) (number : ℕ) (e : Bound) (p : PlanData) → uses_row_index e.expr ≡ false → IsPlanOf s e p → IsPlanOf (numbered_state number s) e p
unnumbered_plan s number e p free is = record {
  expr = is.expr;
  numbered = is.numbered ∙ none_of (is_some s.first_number) (uses_row_index e.expr) (not (uses_root e.expr)) free ∙ sym (none_of true (uses_row_index e.expr) (not (uses_root e.expr)) free);
  dtype = is.dtype;
  rows = is.rows;
  value = λ store i h. is.value store i h ∙ any_row e.scope e.expr (s.value store i) (number_of s.first_number i) (number + i) free;
  overflow = λ store i h. is.overflow store i h ∙ any_row_overflows e.scope e.expr (s.value store i) (number_of s.first_number i) (number + i) free;
  wants = is.wants;
  spoils = is.spoils;
  exact = is.exact;
}

-- ---- what an expression is parted into, of which it is known that row numbers stand in it

by_both : (a b : Bool) (s : DataType) (e : Expr) (d : RowDivided) → a ≡ true → Both d ≡ row_split_by a b s e → (b ≡ true) × (d ≡ row_divided s e)
by_both true true s e d u h = (refl, cc)
by_both true false s e d u h = absurd cc
by_both false true s e d u h = absurd cc
by_both false false s e d u h = absurd cc

module _ (s : ReaderState) (number : ℕ) (e : Bound) where
  -- ---- over both
  values_are : (items : List Partition) (ps : List Bound) (ns : List PlanTree) → ArePartPlans s number items ps ns → (store : Store) (i : ℕ) → i < s.rows → values_at (plans ns) store i ≡ row_values (s.value store i) (number + i) 0 items ps
  values_are [] [] [] a store i h = refl
  values_are [] [] (n ∷ ns) a store i h = absurd a
  values_are [] (p ∷ ps) ns a store i h = absurd a
  values_are (x ∷ items) [] ns a store i h = absurd a
  values_are (x ∷ items) (p ∷ ps) [] a store i h = absurd a
  values_are (x ∷ items) (p ∷ ps) (n ∷ ns) a store i h = rw ((a.0).value store i h, values_are items ps ns a.1 store i h) refl

  overflows_are : (items : List Partition) (ps : List Bound) (ns : List PlanTree) → ArePartPlans s number items ps ns → (store : Store) (i : ℕ) → i < s.rows → overflow_in (plans ns) store i ≡ row_parts_overflow (s.value store i) (number + i) 0 items ps
  overflows_are [] [] [] a store i h = refl
  overflows_are [] [] (n ∷ ns) a store i h = absurd a
  overflows_are [] (p ∷ ps) ns a store i h = absurd a
  overflows_are (x ∷ items) [] ns a store i h = absurd a
  overflows_are (x ∷ items) (p ∷ ps) [] a store i h = absurd a
  overflows_are (x ∷ items) (p ∷ ps) (n ∷ ns) a store i h = rw ((a.0).overflow store i h, overflows_are items ps ns a.1 store i h) refl

  are_within : (items : List Partition) (ps : List Bound) (ns : List PlanTree) → ArePartPlans s number items ps ns → AllWithin (plans ns) s.rows
  are_within [] [] [] a = tt
  are_within [] [] (n ∷ ns) a = absurd a
  are_within [] (p ∷ ps) ns a = absurd a
  are_within (x ∷ items) [] ns a = absurd a
  are_within (x ∷ items) (p ∷ ps) [] a = absurd a
  are_within (x ∷ items) (p ∷ ps) (n ∷ ns) a = ((a.0).rows, are_within items ps ns a.1)

  part_wants : (x : Partition) (p : Bound) (n : PlanTree) → WantsPart s x p n → OfChild x (LiesUnder p.scope p.expr [] e.scope e.expr)
      → (store : Store) (here : Came) (first : ℕ) (mask : List Bool) (id : ℕ) → Holds store here → first + length mask ≤ s.rows
      → names_id id (wanted n here (true_rows first mask)) ≡ true → may_want s e store first (first + length mask) id ≡ true
  part_wants TheRowIdx p n a lies store here first mask id holds h w = absurd (let none = a here (true_rows first mask) in let z : false ≡ true = ap (names_id id) (sym none) ∙ w in cc)
  part_wants TheChild p n a lies store here first mask id holds h w = needed_more (needed p.scope p.expr) (needed e.scope e.expr) (λ (z : Place). z.id == id) (λ path. (lies path).1) (s.touched store first (first + length mask)) (a store here first mask id holds h w)

  part_spoils : (x : Partition) (p : Bound) (n : PlanTree) → SpoilsPart s x p n → OfChild x (LiesUnder p.scope p.expr [] e.scope e.expr)
      → (store : Store) (here : Came) (first : ℕ) (mask : List Bool) (id : ℕ) → Holds store here → first + length mask ≤ s.rows
      → spoiled n here (true_rows first mask) id ≡ true → may_spoil s e store first (first + length mask) id ≡ true
  part_spoils TheRowIdx p n a lies store here first mask id holds h w = absurd (let none = a here (true_rows first mask) id in let z : false ≡ true = sym none ∙ w in cc)
  part_spoils TheChild p n a lies store here first mask id holds h w = needed_more (needed p.scope p.expr) (needed e.scope e.expr) (λ (z : Place). (z.id == id) && s.flawed store z) (λ path. (lies path).1) (s.touched store first (first + length mask)) (a store here first mask id holds h w)

  parts_want : (items : List Partition) (ps : List Bound) (ns : List PlanTree) → ArePartPlans s number items ps ns → EachOfChild e items ps
      → (store : Store) (here : Came) (first : ℕ) (mask : List Bool) (id : ℕ) → Holds store here → first + length mask ≤ s.rows
      → names_id id (all_wanted (plans ns) here (true_rows first mask)) ≡ true → may_want s e store first (first + length mask) id ≡ true
  parts_want [] [] [] a lies store here first mask id holds h w = absurd (let z : false ≡ true = w in cc)
  parts_want [] [] (n ∷ ns) a lies store here first mask id holds h w = absurd a
  parts_want [] (p ∷ ps) ns a lies store here first mask id holds h w = absurd a
  parts_want (x ∷ items) [] ns a lies store here first mask id holds h w = absurd a
  parts_want (x ∷ items) (p ∷ ps) [] a lies store here first mask id holds h w = absurd a
  parts_want (x ∷ items) (p ∷ ps) (n ∷ ns) a lies store here first mask id holds h w =
      either (names_id id (wanted n here (true_rows first mask))) (names_id id (all_wanted (plans ns) here (true_rows first mask))) (may_want s e store first (first + length mask) id)
      (sym (list_any-append (λ (z : Place). z.id == id) (wanted n here (true_rows first mask)) (all_wanted (plans ns) here (true_rows first mask))) ∙ w)
      (part_wants x p n (a.0).wants lies.0 store here first mask id holds h) (parts_want items ps ns a.1 lies.1 store here first mask id holds h)

  parts_spoil : (items : List Partition) (ps : List Bound) (ns : List PlanTree) → ArePartPlans s number items ps ns → EachOfChild e items ps
      → (store : Store) (here : Came) (first : ℕ) (mask : List Bool) (id : ℕ) → Holds store here → first + length mask ≤ s.rows
      → any_spoiled (plans ns) here (true_rows first mask) id ≡ true → may_spoil s e store first (first + length mask) id ≡ true
  parts_spoil [] [] [] a lies store here first mask id holds h w = absurd (let z : false ≡ true = w in cc)
  parts_spoil [] [] (n ∷ ns) a lies store here first mask id holds h w = absurd a
  parts_spoil [] (p ∷ ps) ns a lies store here first mask id holds h w = absurd a
  parts_spoil (x ∷ items) [] ns a lies store here first mask id holds h w = absurd a
  parts_spoil (x ∷ items) (p ∷ ps) [] a lies store here first mask id holds h w = absurd a
  parts_spoil (x ∷ items) (p ∷ ps) (n ∷ ns) a lies store here first mask id holds h w =
      either (spoiled n here (true_rows first mask) id) (any_spoiled (plans ns) here (true_rows first mask) id) (may_spoil s e store first (first + length mask) id) w
      (part_spoils x p n (a.0).spoils lies.0 store here first mask id holds h) (parts_spoil items ps ns a.1 lies.1 store here first mask id holds h)

  pub both_plan : (d : RowDivided) (ns : List PlanTree) → uses_row_index e.expr ≡ true → Both d ≡ row_split e.scope e.expr → KeepsRows e (Both d)
      → EachOfChild e d.items d.parts → ArePartPlans s number d.items d.parts ns
      → IsPlanOf (numbered_state number s) e (plan_data e (over d.root.scope d.root.expr (plans ns)))
  both_plan d ns uses exact keeps lies a =
      let u = by_both (uses_row_index e.expr) (uses_root e.expr) e.scope e.expr d uses exact in
      record {
        expr = refl;
        numbered = sym (rw (uses, u.0) refl);
        dtype = keeps.dtype;
        rows = are_within d.items d.parts ns a;
        value = λ store i h. ap (λ (vs : Markeds). eval d.root.scope d.root.expr (struct vs) 0) (values_are d.items d.parts ns a store i h) ∙ keeps.values (s.value store i) (number + i) 0;
        overflow = λ store i h. spills store i h ∙ keeps.overflow (s.value store i) (number + i) 0;
        wants = parts_want d.items d.parts ns a lies;
        spoils = parts_spoil d.items d.parts ns a lies;
        exact = λ free. absurd (let z : true ≡ false = sym uses ∙ free in cc);
      }
    where
      spills : (store : Store) (i : ℕ) → i < s.rows → (overflow_in (plans ns) store i || overflows d.root.scope d.root.expr (struct (values_at (plans ns) store i)) 0) ≡ joined_row_overflows d (s.value store i) (number + i) 0
      spills store i h = rw (values_are d.items d.parts ns a store i h, overflows_are d.items d.parts ns a store i h)
          (or_swap (row_parts_overflow (s.value store i) (number + i) 0 d.items d.parts)
          (overflows d.root.scope d.root.expr (struct (row_values (s.value store i) (number + i) 0 d.items d.parts)) 0))

-- ---- the root's scope has a field for each part
module _ (s : ReaderState) (number : ℕ) (t : DataType) where
  fields_are : (gs : List Group) (ns : List PlanTree) → ArePartPlans s number (map partition_of (map (λ (g : Group). g.0) gs)) (map (group_part (stepped t)) gs) ns → AreFields (joined_fields (type_of_part (stepped t)) gs) (plans ns)
  fields_are [] [] a = tt
  fields_are [] (n ∷ ns) a = absurd a
  fields_are (g ∷ gs) [] a = absurd a
  fields_are (g ∷ gs) (n ∷ ns) a = (sym (a.0).dtype, fields_are gs ns a.1)

pub both_node : (s : ReaderState) (number : ℕ) (e : Bound) (d : RowDivided) (ns : List PlanTree) → uses_row_index e.expr ≡ true → Both d ≡ row_split e.scope e.expr → uses_row_index d.root.expr ≡ false → ArePartPlans s number d.items d.parts ns → IsNode (over d.root.scope d.root.expr (plans ns))
both_node s number e d ns uses exact free a =
    let u = by_both (uses_row_index e.expr) (uses_root e.expr) e.scope e.expr d uses exact in
    let gs = groups_of (cuts (lift e.expr)) in
    let t = numbered_scope e.scope in
    let b : ArePartPlans s number (map partition_of (map (λ (g : Group). g.0) gs)) (map (group_part (stepped t)) gs) ns = subst (λ (x : RowDivided). ArePartPlans s number x.items x.parts ns) u.1 a in
    (joined_fields (type_of_part (stepped t)) gs, ap (λ (x : RowDivided). x.root.scope) u.1, fields_are s number t gs ns b, free)

-- ---- what is kept
pub kept_here : (child : Kept) (plans : List PlanData) (e : Bound) → uses_row_index e.expr ≡ true → kept_by_numbers child plans e ≡ find_plan plans e
kept_here child plans e h = rw h refl

pub both_stay : (old new : Kept) (before after : List PlanData) → Stay old new → Stay (find_plan before) (find_plan after) → Stay (kept_by_numbers old before) (kept_by_numbers new after)
both_stay old new before after a b = record { stay = λ e p. by e p (uses_row_index e.expr) }
  where
    by : (e : Bound) (p : PlanData) (t : Bool) → (if t then find_plan before e else old e) ≡ Some p → (if t then find_plan after e else new e) ≡ Some p
    by e p true h = b.stay e p h
    by e p false h = a.stay e p h
