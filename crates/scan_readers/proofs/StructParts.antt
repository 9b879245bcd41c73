-- Plans over the children of a struct are plans of the struct.
use Rattle.std.proofs.Common.{◌≡◌, ℕ, zero, suc, ◌==◌, ◌+◌, ◌<◌, ◌≤◌, Bool, true, false, ◌||◌, ◌&&◌, List, [], ◌∷◌, length, max, min, filter, Some, None, refl, ap, sym, subst, ◌∙◌, arith}
use Rattle.std.specs.Prelude.{if◌then◌else◌, nat_lt}
use Rattle.std.specs.List.{list_any}
use Rattle.std.proofs.lemmas.Bool.Decides.{nat_tests}
use Rattle.std.proofs.lemmas.List.Folds.{list_any-append}
use Rattle.scan_values.specs.declared.ptype.Nullability.{Nullability}
use Rattle.scan_values.specs.DataType.{DataType, Fields, Name, struct_type, field_list}
use Rattle.scan_values.specs.FieldLists.{dtypes_of as field_types}
use Rattle.scan_values.specs.Fits.{fits}
use Rattle.scan_values.specs.Marked.{Marked, Markeds, struct}
use Rattle.scan_values.specs.Paths.{Path}
use Rattle.scan_segments.specs.Source.{Store}
use Rattle.scan_expr.specs.Bound.{Bound, bound_of}
use Rattle.scan_expr.specs.Eval.{eval}
use Rattle.scan_expr.specs.Expr.{Expr}
use Rattle.scan_expr.specs.Infer.{infer}
use Rattle.scan_expr.specs.Needs.{needed}
use Rattle.scan_expr.specs.Overflow.{overflows}
use Rattle.scan_layout.specs.declared.node.LayoutKind.TheVariants.{Leaf, Struct, List as List'}
use Rattle.scan_layout.specs.Check.{with_validity}
use Rattle.scan_layout.specs.Form.{HasForm, HaveForms, AllHaveRows}
use Rattle.scan_layout.specs.Layout.{Layout, Nodes, node, no_nodes, child, rows_of}
use Rattle.scan_spelling.specs.Places.{Place, places_of}
use Rattle.scan_layout.specs.RowValue.{row_value, row_values, struct_value}
use Rattle.scan_layout.specs.Slots.{nth_kid}
use Rattle.scan_layout.specs.Touched.{touched, below_step, all_touched, leaf_touched, struct_steps}
use Rattle.scan_plans.specs.Came.{Came, Holds}
use Rattle.scan_plans.specs.Meaning.{value_at, values_at, overflow_at, overflow_in, true_rows, Within, AllWithin}
use Rattle.scan_plans.specs.PlanData.{plan_data}
use Rattle.scan_plans.specs.PlanTree.{PlanTree, PlanTrees, over, no_plans, plan}
use Rattle.scan_plans.specs.Wants.{wanted, all_wanted, names_id, spoiled, any_spoiled}
use Rattle.scan_partition.specs.declared.item.Item.{Item}
use Rattle.scan_partition.specs.Divided.{Divided}
use Rattle.scan_partition.specs.Needing.{EachLiesUnder, item_step, item_path}
use Rattle.scan_partition.specs.Split.{Keeps, part_values, parts_overflow, joined_value_of, joined_overflows}
use Rattle.scan_readers.specs.Flaws.{has_flaw}
use Rattle.scan_readers.specs.LeafPlans.{layout_state}
use Rattle.scan_readers.specs.PlanOf.{IsPlanOf, may_want, may_spoil}
use Rattle.scan_readers.specs.StructPlans.{item_value, IsChildPlan, AreChildPlans}
use Rattle.scan_readers.proofs.Flawed.{named_below}
use Rattle.scan_readers.proofs.SomePlace.{either, below_needed}
use Rattle.scan_readers.proofs.StructRows.{is_row, agrees, child_value, leads_item, leads_touched, leads_lists}

leaf_none : (base : ℕ) (places : List Place) (a b : ℕ) → b ≤ a → leaf_touched base places a b ≡ []
leaf_none base [] a b h = refl
leaf_none base (p ∷ places) a b h =
    let off : nat_lt (max base a) (min (base + p.rows) b) ≡ false = grind (arith, nat_tests, h) in
    rw off (leaf_none (base + p.rows) places a b h)

nothing_touched : (l : Layout) (store : Store) (a b : ℕ) → nat_lt a b ≡ false → touched l store a b ≡ []
nothing_touched (node t rows (Leaf segments spelling) kids) store a b h = let le : b ≤ a = grind (arith, nat_tests, h) in leaf_none 0 (places_of t spelling segments) a b le
nothing_touched (node t rows Struct kids) store a b h = rw h refl
nothing_touched (node t rows (List' p) kids) store a b h = rw h refl

kid_rows : (rows : ℕ) (kids : Nodes) (j : ℕ) (c : Layout) → AllHaveRows rows kids → nth_kid kids j ≡ Some c → rows_of c ≡ rows
kid_rows rows no_nodes j c h e = absurd (let z : None ≡ Some c = e in cc)
kid_rows rows (child l ls) zero c h e = let same : l ≡ c = cc in ap rows_of (sym same) ∙ h.0
kid_rows rows (child l ls) (suc j) c h e = kid_rows rows ls j c h.1 e

or_swap : (a b : Bool) → (a || b) ≡ (b || a)
or_swap true true = refl
or_swap true false = refl
or_swap false true = refl
or_swap false false = refl

-- what a part needs of its item, an expression needs below the item
abbrev pub NeedsBelow : Item → Bound → Bound → Type 0
NeedsBelow item p e = (path : Path) → needed p.scope p.expr path ≡ true → needed e.scope e.expr (item_step item ∷ path) ≡ true

abbrev pub EachBelow : List Item → List Bound → Bound → Type 0
EachBelow [] ps e = Unit {0}
EachBelow (i ∷ is) [] e = ⊥
EachBelow (i ∷ is) (p ∷ ps) e = NeedsBelow i p e × EachBelow is ps e

pub each_below : (is : List Item) (ps : List Bound) (e : Bound) → EachLiesUnder item_path e is ps → EachBelow is ps e
each_below [] ps e h = tt
each_below (i ∷ is) [] e h = absurd h
each_below (i ∷ is) (p ∷ ps) e h = ((λ path n. (h.0 path).1 n), each_below is ps e h.1)

module _ (name : Name) (fs : Fields) (n : Nullability) (rows : ℕ) (kids : Nodes) (x : Expr)
    (fit : (l : Layout) (t : DataType) (store : Store) (i : ℕ) → HasForm l t → fits (row_value l store i) t ≡ true) (even : AllHaveRows rows kids)
    (forms : HaveForms kids (with_validity n (field_types (field_list fs)))) where
  abbrev whole_layout : Layout
  whole_layout = node (struct_type fs n) rows Struct kids

  abbrev whole_expr : Bound
  whole_expr = bound_of (struct_type fs n) x

  -- of the segments that a part needs of its child one passes a test: below the child one passes where the expression needs it
  child_meets : (item : Item) (p : Bound) (q : PlanTree) (c : IsChildPlan fs n kids item p q) → NeedsBelow item p whole_expr → (S T : Place → Bool) → ((z : Place) → S z ≡ true → T (below_step (item_step item) z) ≡ true)
      → (store : Store) (a b : ℕ) → list_any S (filter (λ (z : Place). needed p.scope p.expr z.path) (touched c.layout store a b)) ≡ true
      → list_any T (filter (λ (z : Place). needed (struct_type fs n) x z.path) (touched whole_layout store a b)) ≡ true
  child_meets item p q c lies S T less store a b held = by (nat_lt a b) refl
    where
      by : (t : Bool) → nat_lt a b ≡ t → list_any T (filter (λ (z : Place). needed (struct_type fs n) x z.path) (if t then all_touched kids (struct_steps (struct_type fs n)) store a b else [])) ≡ true
      by true t = leads_touched (needed (struct_type fs n) x) T kids (struct_steps (struct_type fs n)) (item_step item) c.layout store a b (leads_item fs n kids item c.index c.layout c.child c.kid forms)
          (below_needed (needed p.scope p.expr) (needed (struct_type fs n) x) (item_step item) S T lies less (touched c.layout store a b) held)
      by false t = absurd (let none = nothing_touched c.layout store a b t in let z : false ≡ true = ap (λ (ps : List Place). list_any S (filter (λ (z : Place). needed p.scope p.expr z.path) ps)) (sym none) ∙ held in cc)

  child_wants : (item : Item) (p : Bound) (q : PlanTree) → IsChildPlan fs n kids item p q → NeedsBelow item p whole_expr
      → (store : Store) (here : Came) (first : ℕ) (mask : List Bool) (id : ℕ) → Holds store here → first + length mask ≤ rows
      → names_id id (wanted q here (true_rows first mask)) ≡ true
      → may_want (layout_state name whole_layout) whole_expr store first (first + length mask) id ≡ true
  child_wants item p q c lies store here first mask id holds below w =
      let all : rows_of c.layout ≡ rows = kid_rows rows kids c.index c.layout even c.kid in
      child_meets item p q c lies (λ (z : Place). z.id == id) (λ (z : Place). z.id == id) (λ z h. h) store first (first + length mask) ((c.plan name).wants store here first mask id holds (omega (arith, all, below)) w)

  child_spoils : (item : Item) (p : Bound) (q : PlanTree) → IsChildPlan fs n kids item p q → NeedsBelow item p whole_expr
      → (store : Store) (here : Came) (first : ℕ) (mask : List Bool) (id : ℕ) → Holds store here → first + length mask ≤ rows
      → spoiled q here (true_rows first mask) id ≡ true
      → may_spoil (layout_state name whole_layout) whole_expr store first (first + length mask) id ≡ true
  child_spoils item p q c lies store here first mask id holds below w =
      let all : rows_of c.layout ≡ rows = kid_rows rows kids c.index c.layout even c.kid in
      child_meets item p q c lies (λ (z : Place). (z.id == id) && has_flaw c.layout store z) (λ (z : Place). (z.id == id) && has_flaw whole_layout store z)
      (named_below whole_layout c.layout (item_step item) store id (λ B. leads_lists B kids (struct_steps (struct_type fs n)) (item_step item) c.layout (leads_item fs n kids item c.index c.layout c.child c.kid forms)))
      store first (first + length mask) ((c.plan name).spoils store here first mask id holds (omega (arith, all, below)) w)

  child_at : (item : Item) (p : Bound) (q : PlanTree) → IsChildPlan fs n kids item p q → (store : Store) (i : ℕ) → i < rows → value_at q store i ≡ eval p.scope p.expr (item_value fs n kids store i item) 0
  child_at item p q c store i below =
      let all : rows_of c.layout ≡ rows = kid_rows rows kids c.index c.layout even c.kid in
      (c.plan name).value store i (omega (arith, all, below)) ∙ ap (λ (v : Marked). eval p.scope p.expr v 0) (child_value fs n kids item c.index c.layout store i (λ l t. fit l t store i) c.child c.kid forms)

  child_spills : (item : Item) (p : Bound) (q : PlanTree) → IsChildPlan fs n kids item p q → (store : Store) (i : ℕ) → i < rows → overflow_at q store i ≡ overflows p.scope p.expr (item_value fs n kids store i item) 0
  child_spills item p q c store i below =
      let all : rows_of c.layout ≡ rows = kid_rows rows kids c.index c.layout even c.kid in
      (c.plan name).overflow store i (omega (arith, all, below)) ∙ ap (λ (v : Marked). overflows p.scope p.expr v 0) (child_value fs n kids item c.index c.layout store i (λ l t. fit l t store i) c.child c.kid forms)

  child_within : (item : Item) (p : Bound) (q : PlanTree) → IsChildPlan fs n kids item p q → Within q rows
  child_within item p q c = subst (λ (m : ℕ). Within q m) (kid_rows rows kids c.index c.layout even c.kid) (c.plan name).rows

  -- the one part of an expression
  pub single_plan : (item : Item) (p : Bound) (q : PlanTree) → IsChildPlan fs n kids item p q
      → Keeps whole_expr (infer p.scope p.expr) (λ w k. eval p.scope p.expr (w item) k) (λ w k. overflows p.scope p.expr (w item) k)
      → NeedsBelow item p whole_expr → IsPlanOf (layout_state name whole_layout) whole_expr (plan_data whole_expr q)
  single_plan item p q c keeps lies = record {
    expr = refl;
    numbered = (c.plan name).numbered;
    dtype = (c.plan name).dtype ∙ keeps.dtype;
    rows = child_within item p q c;
    value = λ store i below. child_at item p q c store i below ∙ keeps.values (struct_value n (row_values kids store i)) (item_value fs n kids store i) 0 (is_row fs n kids store i forms) (agrees fs n kids store i forms);
    overflow = λ store i below. child_spills item p q c store i below ∙ keeps.overflow (struct_value n (row_values kids store i)) (item_value fs n kids store i) 0 (is_row fs n kids store i forms) (agrees fs n kids store i forms);
    wants = child_wants item p q c lies;
    spoils = child_spoils item p q c lies;
    exact = λ free. tt;
  }

  -- ---- several parts
  parts_at : (items : List Item) (parts : List Bound) (ps : PlanTrees) → AreChildPlans fs n kids items parts ps → (store : Store) (i : ℕ) → i < rows → values_at ps store i ≡ part_values (item_value fs n kids store i) 0 items parts
  parts_at [] [] no_plans c store i below = refl
  parts_at [] [] (plan q ps) c store i below = absurd c
  parts_at [] (p ∷ parts) ps c store i below = absurd c
  parts_at (item ∷ items) [] ps c store i below = absurd c
  parts_at (item ∷ items) (p ∷ parts) no_plans c store i below = absurd c
  parts_at (item ∷ items) (p ∷ parts) (plan q ps) c store i below = rw (child_at item p q c.0 store i below, parts_at items parts ps c.1 store i below) refl

  parts_spill : (items : List Item) (parts : List Bound) (ps : PlanTrees) → AreChildPlans fs n kids items parts ps → (store : Store) (i : ℕ) → i < rows → overflow_in ps store i ≡ parts_overflow (item_value fs n kids store i) 0 items parts
  parts_spill [] [] no_plans c store i below = refl
  parts_spill [] [] (plan q ps) c store i below = absurd c
  parts_spill [] (p ∷ parts) ps c store i below = absurd c
  parts_spill (item ∷ items) [] ps c store i below = absurd c
  parts_spill (item ∷ items) (p ∷ parts) no_plans c store i below = absurd c
  parts_spill (item ∷ items) (p ∷ parts) (plan q ps) c store i below = rw (child_spills item p q c.0 store i below, parts_spill items parts ps c.1 store i below) refl

  parts_within : (items : List Item) (parts : List Bound) (ps : PlanTrees) → AreChildPlans fs n kids items parts ps → AllWithin ps rows
  parts_within [] [] no_plans c = tt
  parts_within [] [] (plan q ps) c = absurd c
  parts_within [] (p ∷ parts) ps c = absurd c
  parts_within (item ∷ items) [] ps c = absurd c
  parts_within (item ∷ items) (p ∷ parts) no_plans c = absurd c
  parts_within (item ∷ items) (p ∷ parts) (plan q ps) c = (child_within item p q c.0, parts_within items parts ps c.1)

  parts_want : (items : List Item) (parts : List Bound) (ps : PlanTrees) → AreChildPlans fs n kids items parts ps → EachBelow items parts whole_expr
      → (store : Store) (here : Came) (first : ℕ) (mask : List Bool) (id : ℕ) → Holds store here → first + length mask ≤ rows
      → names_id id (all_wanted ps here (true_rows first mask)) ≡ true
      → may_want (layout_state name whole_layout) whole_expr store first (first + length mask) id ≡ true
  parts_want [] [] no_plans c lies store here first mask id holds below w = absurd cc
  parts_want [] [] (plan q ps) c lies store here first mask id holds below w = absurd c
  parts_want [] (p ∷ parts) ps c lies store here first mask id holds below w = absurd c
  parts_want (item ∷ items) [] ps c lies store here first mask id holds below w = absurd c
  parts_want (item ∷ items) (p ∷ parts) no_plans c lies store here first mask id holds below w = absurd c
  parts_want (item ∷ items) (p ∷ parts) (plan q ps) c lies store here first mask id holds below w =
      either (names_id id (wanted q here (true_rows first mask))) (names_id id (all_wanted ps here (true_rows first mask))) (may_want (layout_state name whole_layout) whole_expr store first (first + length mask) id)
      (sym (list_any-append (λ (z : Place). z.id == id) (wanted q here (true_rows first mask)) (all_wanted ps here (true_rows first mask))) ∙ w)
      (child_wants item p q c.0 lies.0 store here first mask id holds below) (parts_want items parts ps c.1 lies.1 store here first mask id holds below)

  parts_spoil : (items : List Item) (parts : List Bound) (ps : PlanTrees) → AreChildPlans fs n kids items parts ps → EachBelow items parts whole_expr
      → (store : Store) (here : Came) (first : ℕ) (mask : List Bool) (id : ℕ) → Holds store here → first + length mask ≤ rows
      → any_spoiled ps here (true_rows first mask) id ≡ true
      → may_spoil (layout_state name whole_layout) whole_expr store first (first + length mask) id ≡ true
  parts_spoil [] [] no_plans c lies store here first mask id holds below w = absurd cc
  parts_spoil [] [] (plan q ps) c lies store here first mask id holds below w = absurd c
  parts_spoil [] (p ∷ parts) ps c lies store here first mask id holds below w = absurd c
  parts_spoil (item ∷ items) [] ps c lies store here first mask id holds below w = absurd c
  parts_spoil (item ∷ items) (p ∷ parts) no_plans c lies store here first mask id holds below w = absurd c
  parts_spoil (item ∷ items) (p ∷ parts) (plan q ps) c lies store here first mask id holds below w =
      either (spoiled q here (true_rows first mask) id) (any_spoiled ps here (true_rows first mask) id) (may_spoil (layout_state name whole_layout) whole_expr store first (first + length mask) id) w
      (child_spoils item p q c.0 lies.0 store here first mask id holds below) (parts_spoil items parts ps c.1 lies.1 store here first mask id holds below)

  pub over_plan : (d : Divided) (ps : PlanTrees) → AreChildPlans fs n kids d.items d.parts ps
      → Keeps whole_expr (infer d.root.scope d.root.expr) (joined_value_of d) (joined_overflows d) → EachBelow d.items d.parts whole_expr
      → IsPlanOf (layout_state name whole_layout) whole_expr (plan_data whole_expr (over d.root.scope d.root.expr ps))
  over_plan d ps c keeps lies = record {
    expr = refl;
    numbered = refl;
    dtype = keeps.dtype;
    rows = parts_within d.items d.parts ps c;
    value = λ store i below. ap (λ (vs : Markeds). eval d.root.scope d.root.expr (struct vs) 0) (parts_at d.items d.parts ps c store i below) ∙ keeps.values (struct_value n (row_values kids store i)) (item_value fs n kids store i) 0 (is_row fs n kids store i forms) (agrees fs n kids store i forms);
    overflow = λ store i below. spills store i below ∙ keeps.overflow (struct_value n (row_values kids store i)) (item_value fs n kids store i) 0 (is_row fs n kids store i forms) (agrees fs n kids store i forms);
    wants = parts_want d.items d.parts ps c lies;
    spoils = parts_spoil d.items d.parts ps c lies;
    exact = λ free. tt;
  }
    where
      spills : (store : Store) (i : ℕ) → i < rows → (overflow_in ps store i || overflows d.root.scope d.root.expr (struct (values_at ps store i)) 0) ≡ joined_overflows d (item_value fs n kids store i) 0
      spills store i below = rw (parts_at d.items d.parts ps c store i below, parts_spill d.items d.parts ps c store i below)
          (or_swap (parts_overflow (item_value fs n kids store i) 0 d.items d.parts)
          (overflows d.root.scope d.root.expr (struct (part_values (item_value fs n kids store i) 0 d.items d.parts)) 0))
