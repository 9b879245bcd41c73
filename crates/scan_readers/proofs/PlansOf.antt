-- Plans over arrays and leaves are plans of their readers.
use Rattle.std.proofs.Common.{◌≡◌, ℕ, ◌+◌, ◌==◌, ◌&&◌, Bool, true, false, List, [], ◌∷◌, ◌++◌, length, max, min, filter, refl, ap, sym, subst, ◌∙◌, arith}
use Rattle.std.specs.Prelude.{if◌then◌else◌, nat_lt, Result, Ok, Err, IfOk, OnOk, OnErr}
use Rattle.std.specs.List.{list_any}
use Rattle.scan_values.specs.Arrays.{ArrayData}
use Rattle.scan_values.specs.DataType.{DataType, Name, bool_type, int_type, utf8_type, list_type, struct_type}
use Rattle.scan_values.specs.Kinds.{is_scalar_type}
use Rattle.scan_layout.specs.declared.node.LayoutKind.{LayoutKind}
use Rattle.scan_layout.specs.declared.node.LayoutKind.TheVariants.{Leaf}
use Rattle.scan_spelling.specs.declared.spelling.Spelling.{Spelling}
use Rattle.scan_layout.specs.Check.{total_rows, child_types}
use Rattle.scan_layout.specs.Form.{HasForm, HaveForms}
use Rattle.scan_layout.specs.Layout.{Layout, Nodes, node, no_nodes, child, dtype_of}
use Rattle.scan_spelling.specs.Places.{Place, place_of, places_of}
use Rattle.scan_layout.specs.Touched.{leaf_touched}
use Rattle.scan_expr.specs.Bound.{Bound}
use Rattle.scan_expr.specs.Expr.{Expr}
use Rattle.scan_expr.specs.Needs.{needed}
use Rattle.scan_plans.specs.PlanTree.{PlanTree, leaf, rows, evaluate, constant}
use Rattle.scan_plans.specs.PlanData.{PlanData, plan_data}
use Rattle.scan_plans.specs.Formed.{reads}
use Rattle.scan_plans.specs.Meaning.{true_rows}
use Rattle.scan_plans.specs.Wants.{names_id, leaf_wanted, is_bad}
use Rattle.scan_plans.proofs.Constants.{value_alike, overflow_alike}
use Rattle.scan_plans.proofs.Wanting.{leaves_touch}
use Rattle.scan_readers.specs.Flaws.{has_flaw}
use Rattle.scan_readers.specs.PlanOf.{IsPlanOf}
use Rattle.scan_readers.specs.RowsData.{rows_state}
use Rattle.scan_readers.specs.LeafPlans.{layout_state, leaf_layout, leaf_tree}
use Rattle.scan_readers.specs.declared.kind.ReaderKind.{ReaderKind}
use Rattle.scan_readers.specs.KindView.{layout_of}
use Rattle.scan_readers.specs.ReaderData.{IsReader}
use Rattle.scan_readers.proofs.Flawed.{bytes_flawed}
use Rattle.scan_readers.proofs.Scopes.{needed_here}
use Rattle.scan_readers.proofs.SomePlace.{any_mono, leaf_touches}
use Rattle.scan_readers.proofs.Keeping.{kept_each, own_plan}

-- ---- arrays
pub rows_plan : (name : Name) (a : ArrayData) (e : Bound) → IsPlanOf (rows_state name a) e (plan_data e (evaluate e.scope e.expr (rows a.dtype a.items)))
rows_plan name a e = record {
  expr = refl;
  numbered = refl;
  dtype = refl;
  rows = omega arith;
  value = λ store i h. refl;
  overflow = λ store i h. refl;
  wants = λ store here first mask id holds h w. absurd cc;
  spoils = λ store here first mask id holds h w. absurd cc;
  exact = λ free here is. nothing (reads e.scope e.expr);
}
  where
    nothing : (b : Bool) → ◌≡◌ {A = List Place} [] (if b then [] else [])
    nothing true = refl
    nothing false = refl

-- ---- leaves

pub no_children : (d : DataType) (segments : List (ℕ × ℕ)) (spelling : Spelling) → child_types d (Leaf segments spelling) ≡ []
no_children (bool_type n) segments spelling = refl
no_children (int_type p n) segments spelling = refl
no_children (utf8_type n) segments spelling = refl
no_children (list_type t n) segments spelling = refl
no_children (struct_type fs n) segments spelling = refl

no_kids : (kids : Nodes) → HaveForms kids [] → kids ≡ no_nodes
no_kids no_nodes h = refl
no_kids (child l ls) h = absurd h

-- a leaf of good form is that of its segments
pub leaf_is : (d : DataType) (n : ℕ) (segments : List (ℕ × ℕ)) (spelling : Spelling) (kids : Nodes) → HasForm (node d n (Leaf segments spelling) kids) d → leaf_layout d spelling segments ≡ node d n (Leaf segments spelling) kids
leaf_is d n segments spelling kids h =
    let none : kids ≡ no_nodes = no_kids kids (subst (λ (ts : List DataType). HaveForms kids ts) (no_children d segments spelling) h.3) in
    let all : total_rows segments ≡ n = (h.2).0 in
    λ i. node d (all i) (Leaf segments spelling) (sym none i)

all_by : (Q : Place → Bool) (b : Bool) (p : Place) (ps : List Place) → Q p ≡ true → filter Q ps ≡ ps → filter Q ((if b then p ∷ [] else []) ++ ps) ≡ ((if b then p ∷ [] else []) ++ ps)
all_by Q true p ps h rest = rw h (ap (λ qs. p ∷ qs) rest)
all_by Q false p ps h rest = rest

all_needed : (d : DataType) (e : Expr) (spelling : Spelling) (segments : List (ℕ × ℕ)) (base start end : ℕ) → needed d e [] ≡ true
    → filter (λ (p : Place). needed d e p.path) (leaf_touched base (places_of d spelling segments) start end) ≡ leaf_touched base (places_of d spelling segments) start end
all_needed d e spelling [] base start end h = refl
all_needed d e spelling (g ∷ segments) base start end h = all_by (λ (p : Place). needed d e p.path) (nat_lt (max base start) (min (base + g.1) end))
    (place_of d spelling g) (leaf_touched (base + g.1) (places_of d spelling segments) start end) h (all_needed d e spelling segments (base + g.1) start end h)

-- a reader of what a leaf's node has is of the node
pub leaf_built : (made l : Layout) (d : DataType) (n : ℕ) (kind : LayoutKind) (kids : Nodes) (segments : List (ℕ × ℕ)) (spelling : Spelling) → node d n kind kids ≡ l → kind ≡ Leaf segments spelling → HasForm l (dtype_of l) → made ≡ leaf_layout d spelling segments → made ≡ l
leaf_built made l d n kind kids segments spelling view is form h =
    let at : node d n (Leaf segments spelling) kids ≡ l = ap (λ (k : LayoutKind). node d n k kids) (sym is) ∙ view in
    let f : HasForm (node d n (Leaf segments spelling) kids) d = subst (λ (x : Layout). HasForm x (dtype_of x)) (sym at) form in
    h ∙ leaf_is d n segments spelling kids f ∙ at

module _ (name : Name) (spelling : Spelling) (segments : List (ℕ × ℕ)) (e : Bound) where
  reading : is_scalar_type e.scope ≡ true → reads e.scope e.expr ≡ true → IsPlanOf (layout_state name (leaf_layout e.scope spelling segments)) e (plan_data e (evaluate e.scope e.expr (leaf e.scope spelling segments)))
  reading scalar h = record {
    expr = refl;
    numbered = refl;
    dtype = refl;
    rows = omega arith;
    value = λ store i below. refl;
    overflow = λ store i below. refl;
    wants = λ store here first mask id holds below w. ap (names_id id) (all_needed e.scope e.expr spelling segments 0 first (first + length mask) (needed_here e.scope e.expr scalar h)) ∙ leaves_touch (places_of e.scope spelling segments) 0 first mask id w;
    spoils = λ store here first mask id holds below w.
        let T : Place → Bool = λ p. (p.id == id) && has_flaw (leaf_layout e.scope spelling segments) store p in
        let ps = places_of e.scope spelling segments in
        ap (list_any T) (all_needed e.scope e.expr spelling segments 0 first (first + length mask) (needed_here e.scope e.expr scalar h))
        ∙ leaf_touches T ps 0 first mask (any_mono (λ p. (p.id == id) && is_bad p (here id)) T (λ p. bytes_flawed (leaf_layout e.scope spelling segments) p.path store here id p holds) (leaf_wanted 0 ps (true_rows first mask)) w);
    exact = λ free here is. rw h refl;
  }

  reading_nothing : reads e.scope e.expr ≡ false → IsPlanOf (layout_state name (leaf_layout e.scope spelling segments)) e (plan_data e (constant e.scope e.expr))
  reading_nothing h = record {
    expr = refl;
    numbered = refl;
    dtype = refl;
    rows = tt;
    value = λ store i below. value_alike e.scope e.expr _ _ 0 h;
    overflow = λ store i below. overflow_alike e.scope e.expr _ _ 0 h;
    wants = λ store here first mask id holds below w. absurd cc;
    spoils = λ store here first mask id holds below w. absurd cc;
    exact = λ free here is. rw h refl;
  }

  pub leaf_plan : is_scalar_type e.scope ≡ true → IsPlanOf (layout_state name (leaf_layout e.scope spelling segments)) e (plan_data e (leaf_tree e.scope spelling segments e))
  leaf_plan scalar = by (reads e.scope e.expr) refl
    where
      by : (b : Bool) → reads e.scope e.expr ≡ b → IsPlanOf (layout_state name (leaf_layout e.scope spelling segments)) e (plan_data e (if b then evaluate e.scope e.expr (leaf e.scope spelling segments) else constant e.scope e.expr))
      by true h = reading scalar h
      by false h = reading_nothing h

-- ---- plans that are made of copies
pub rows_made : (name : Name) (a b : ArrayData) (e d : Bound) (q : PlanData) → b ≡ a → d ≡ e → q ≡ plan_data d (evaluate d.scope d.expr (rows b.dtype b.items)) → IsPlanOf (rows_state name a) e q
rows_made name a b e d q same copy made =
    let is : q ≡ plan_data e (evaluate e.scope e.expr (rows a.dtype a.items)) = made ∙ (λ i. plan_data (copy i) (evaluate (copy i).scope (copy i).expr (rows (same i).dtype (same i).items))) in
    subst (λ (z : PlanData). IsPlanOf (rows_state name a) e z) (sym is) (rows_plan name a e)

leaf_of_scope : (name : Name) (d : DataType) (spelling : Spelling) (segments : List (ℕ × ℕ)) (e : Bound) → e.scope ≡ d → is_scalar_type d ≡ true → IsPlanOf (layout_state name (leaf_layout d spelling segments)) e (plan_data e (leaf_tree d spelling segments e))
leaf_of_scope name d spelling segments e scope scalar =
    let P : DataType → Type 0 = λ t. is_scalar_type t ≡ true → IsPlanOf (layout_state name (leaf_layout t spelling segments)) e (plan_data e (leaf_tree t spelling segments e)) in
    subst P scope (λ s. leaf_plan name spelling segments e s) scalar

pub leaf_node_plan : {E : Type 0} (d : DataType) (spelling : Spelling) (segments : List (ℕ × ℕ)) (e : Bound) (r : Result PlanTree E) → e.scope ≡ d → HasForm (leaf_layout d spelling segments) d
    → IfOk r (λ n. n ≡ leaf_tree d spelling segments e) → IfOk r (λ n. (name : Name) → IsPlanOf (layout_state name (leaf_layout d spelling segments)) e (plan_data e n))
leaf_node_plan d spelling segments e (Ok n) scope form is = λ name. subst (λ (z : PlanTree). IsPlanOf (layout_state name (leaf_layout d spelling segments)) e (plan_data e z)) (sym is) (leaf_of_scope name d spelling segments e scope form.1)
leaf_node_plan d spelling segments e (Err f) scope form is = tt

pub reader_kept : {A E : Type 0} (name : Name) (l m : Layout) (old new : List PlanData) (e : Bound) (q : PlanData) (r : Result A E) → IsReader name l old → m ≡ l → IsPlanOf (layout_state name l) e q → OnOk r (new ≡ old ++ q ∷ []) → OnErr r (new ≡ old) → IsReader name m new
reader_kept name l m old new e q r is same h ok err =
    let all : IsReader name l new = record {
      readable = is.readable;
      kept = kept_each (λ (p : PlanData). IsPlanOf (layout_state name l) p.expr p) old new q r is.kept (own_plan (layout_state name l) e q h) ok err;
    } in
    subst (λ (x : Layout). IsReader name x new) (sym same) all

pub kind_plan : {E : Type 0} (k : ReaderKind) (d : DataType) (spelling : Spelling) (segments : List (ℕ × ℕ)) (e : Bound) (r : Result PlanTree E) → IfOk r (λ n. n ≡ leaf_tree d spelling segments e)
    → leaf_layout d spelling segments ≡ layout_of k → e.scope ≡ dtype_of (layout_of k) → HasForm (layout_of k) (dtype_of (layout_of k)) → IfOk r (λ n. (name : Name) → IsPlanOf (layout_state name (layout_of k)) e (plan_data e n))
kind_plan k d spelling segments e r is at scope form =
    let here : HasForm (leaf_layout d spelling segments) d = subst (λ (l : Layout). HasForm l (dtype_of l)) (sym at) form in
    subst (λ (l : Layout). IfOk r (λ n. (name : Name) → IsPlanOf (layout_state name l) e (plan_data e n))) at (leaf_node_plan d spelling segments e r (scope ∙ ap dtype_of (sym at)) here is)
