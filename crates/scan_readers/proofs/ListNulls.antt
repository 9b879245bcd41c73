-- Plans of expressions that read of a list at most whether it is null.
use Rattle.std.proofs.Common.{◌≡◌, ℕ, ◌+◌, ◌-◌, ◌==◌, Bool, true, false, ◌&&◌, List, ◌∷◌, Option, Some, None, ℤ, pos, negsuc, refl, ap, sym, subst, ◌∙◌, arith}
use Rattle.std.specs.Prelude.{if◌then◌else◌, nat_le, Result, Ok, Err, IfOk}
use Rattle.scan_values.specs.DataType.{DataType, Name, bool_type, list_type}
use Rattle.scan_values.specs.declared.ptype.Nullability.TheVariants.{NonNullable, Nullable}
use Rattle.scan_values.specs.declared.ptype.PType.{PType}
use Rattle.scan_values.specs.Fits.{fits}
use Rattle.scan_values.specs.Marked.{Marked, lost, null, gone, boolean, integer, text, list, struct}
use Rattle.scan_values.specs.Paths.{to_validity}
use Rattle.scan_segments.specs.Source.{Store}
use Rattle.scan_expr.specs.declared.op.Unary.{Unary}
use Rattle.scan_expr.specs.declared.op.Unary.TheVariants.{GetItem, Select, Exclude, Not, IsNull, IsNotNull, ListLength}
use Rattle.scan_expr.specs.Bound.{Bound}
use Rattle.scan_expr.specs.Eval.{eval, null_test}
use Rattle.scan_expr.specs.Expr.{Expr, root, row_index, literal, unary, binary, pack, Parts, no_parts, part}
use Rattle.scan_expr.specs.Overflow.{overflows}
use Rattle.scan_layout.specs.declared.node.LayoutKind.TheVariants.{Leaf}
use Rattle.scan_spelling.specs.declared.spelling.Spelling.{Spelling}
use Rattle.scan_layout.specs.Check.{total_rows}
use Rattle.scan_layout.specs.Form.{HasForm}
use Rattle.scan_layout.specs.Layout.{Layout, Nodes, node, no_nodes, child, rows_of}
use Rattle.scan_spelling.specs.Places.{Place}
use Rattle.scan_layout.specs.RowValue.{row_value, elements_between, values_from, under}
use Rattle.scan_layout.proofs.RowFits.{row_fits}
use Rattle.scan_partition.specs.declared.item.Item.TheVariants.{Validity as NullItem}
use Rattle.scan_partition.specs.Items.{spelled}
use Rattle.scan_partition.specs.Lists.{necessary, all_necessary, children_at, greater_of}
use Rattle.scan_partition.specs.ListUses.{NecessaryIsNeeded}
use Rattle.scan_partition.specs.Stepped.{IsOverItem}
use Rattle.scan_partition.specs.declared.list_.ListChildrenNeeded.{ListChildrenNeeded}
use Rattle.scan_partition.specs.declared.list_.ListChildrenNeeded.TheVariants.{Validity, OffsetsAndValidity, All}
use Rattle.scan_plans.specs.Formed.{reads, any_reads, reads_root}
use Rattle.scan_plans.specs.OffsetsData.{offset_at}
use Rattle.scan_plans.specs.PlanData.{plan_data}
use Rattle.scan_plans.specs.PlanTree.{PlanTree, leaf, evaluate, constant}
use Rattle.scan_plans.specs.Wants.{is_bad}
use Rattle.scan_plans.proofs.Constants.{value_alike, overflow_alike}
use Rattle.scan_readers.specs.Flaws.{has_flaw}
use Rattle.scan_readers.specs.LeafPlans.{layout_state}
use Rattle.scan_readers.specs.ListPlans.{list_layout, list_offsets, IsNeverNull, IsNeverNullPlan, IsNullsPlan}
use Rattle.scan_readers.specs.KindView.{leaf_of}
use Rattle.scan_readers.specs.declared.leaf.LeafReader.{LeafReader}
use Rattle.scan_readers.specs.PlanOf.{IsPlanOf}
use Rattle.scan_readers.proofs.Flawed.{bytes_flawed}
use Rattle.scan_readers.proofs.ListOf.{validity_may}

-- ---- of what is never null nothing is read
both : (a b : ListChildrenNeeded) → greater_of a b ≡ Validity → (a ≡ Validity) × (b ≡ Validity)
both Validity b h = (refl, h)
both OffsetsAndValidity Validity h = absurd cc
both OffsetsAndValidity OffsetsAndValidity h = absurd cc
both OffsetsAndValidity All h = absurd cc
both All b h = absurd cc

never_null : (t : DataType) (u : Unary) → children_at u ≡ Validity → reads_root u (list_type t NonNullable) ≡ false
never_null t (GetItem n) h = absurd cc
never_null t (Select ns) h = absurd cc
never_null t (Exclude ns) h = absurd cc
never_null t Not h = absurd cc
never_null t IsNull h = refl
never_null t IsNotNull h = refl
never_null t ListLength h = absurd cc

mutual
  pub reads_nothing : (t : DataType) (e : Expr) → necessary e ≡ Validity → reads (list_type t NonNullable) e ≡ false
  reads_nothing t root h = absurd cc
  reads_nothing t row_index h = refl
  reads_nothing t (literal d v) h = refl
  reads_nothing t (unary u root) h = never_null t u h
  reads_nothing t (unary u row_index) h = refl
  reads_nothing t (unary u (literal d v)) h = refl
  reads_nothing t (unary u (unary w e)) h = reads_nothing t (unary w e) h
  reads_nothing t (unary u (binary b x y)) h = reads_nothing t (binary b x y) h
  reads_nothing t (unary u (pack ps n)) h = reads_nothing t (pack ps n) h
  reads_nothing t (binary b x y) h = let p = both (necessary x) (necessary y) h in rw (reads_nothing t x p.0, reads_nothing t y p.1) refl
  reads_nothing t (pack ps n) h = parts_read_nothing t ps h

  parts_read_nothing : (t : DataType) (ps : Parts) → all_necessary ps ≡ Validity → any_reads (list_type t NonNullable) ps ≡ false
  parts_read_nothing t no_parts h = refl
  parts_read_nothing t (part n e ps) h = let p = both (necessary e) (all_necessary ps) h in rw (reads_nothing t e p.0, parts_read_nothing t ps p.1) refl

-- ---- whether a list is null is what its validity says
a_list : (most : ℕ) (a b : Option ℤ) (f : ℕ → Marked) → null_test false (elements_between most a b f) ≡ boolean true
a_list most None b f = refl
a_list most (Some (negsuc k)) b f = refl
a_list most (Some (pos k)) None f = refl
a_list most (Some (pos k)) (Some (negsuc m)) f = refl
a_list most (Some (pos k)) (Some (pos m)) f = by (nat_le k m && nat_le m most)
  where
    by : (c : Bool) → null_test false (if c then list (values_from f k (m - k)) else gone) ≡ boolean true
    by true = refl
    by false = refl

validity_read : (w x : Marked) → fits w (bool_type NonNullable) ≡ true → null_test false x ≡ boolean true → null_test false (under w x) ≡ w
validity_read (boolean true) x h is = is
validity_read (boolean false) x h is = refl
validity_read gone x h is = refl
validity_read lost x h is = absurd cc
validity_read null x h is = absurd cc
validity_read (integer z) x h is = absurd cc
validity_read (text s) x h is = absurd cc
validity_read (list ns) x h is = absurd cc
validity_read (struct ns) x h is = absurd cc

-- ---- lists that are never null
module _ (name : Name) (t : DataType) (rows : ℕ) (q : PType) (el : Layout) (sp : Spelling) (gs : List (ℕ × ℕ)) (e : Bound) where
  pub never_null_plan : (ls : Nodes) → e.scope ≡ list_type t NonNullable → necessary e.expr ≡ Validity
      → IsPlanOf (layout_state name (list_layout t NonNullable rows q el sp gs ls)) e (plan_data e (constant e.scope e.expr))
  never_null_plan ls scope is =
      let none : reads e.scope e.expr ≡ false = ap (λ (d : DataType). reads d e.expr) scope ∙ reads_nothing t e.expr is in
      record {
        expr = refl;
        numbered = refl;
        dtype = refl;
        rows = tt;
        value = λ store i below. value_alike e.scope e.expr _ _ 0 none;
        overflow = λ store i below. overflow_alike e.scope e.expr _ _ 0 none;
        wants = λ store here first mask id holds below w. absurd cc;
        spoils = λ store here first mask id holds below w. absurd cc;
        exact = λ free. tt;
      }

-- ---- lists that may be null
module _ (law : NecessaryIsNeeded) (name : Name) (t : DataType) (rows : ℕ) (q : PType) (el : Layout) (sp : Spelling) (gs : List (ℕ × ℕ)) (e : Bound) where
  module _ (u : DataType) (r : ℕ) (xs : List (ℕ × ℕ)) (y : Spelling) (ks ls : Nodes) where
    abbrev pub nulls : Layout
    nulls = list_layout t Nullable rows q el sp gs (child (node u r (Leaf xs y) ks) ls)

    null_row : (store : Store) (i : ℕ) → HasForm nulls (list_type t Nullable) → e.scope ≡ list_type t Nullable
        → eval e.scope (spelled NullItem) (row_value nulls store i) 0 ≡ row_value (node u r (Leaf xs y) ks) store i
    null_row store i form scope =
        let w = row_value (node u r (Leaf xs y) ks) store i in
        let o = list_offsets q el sp gs in
        let x = elements_between (rows_of el) (offset_at o store i) (offset_at o store (i + 1)) (λ j. row_value el store j) in
        let known = row_fits (node u r (Leaf xs y) ks) (bool_type NonNullable) store i form.3.1.1.0 in
        let P : DataType → Type 0 = λ d. eval d (spelled NullItem) (row_value nulls store i) 0 ≡ w in
        subst P (sym scope) (validity_read w x known (a_list (rows_of el) (offset_at o store i) (offset_at o store (i + 1)) (λ j. row_value el store j)))

    pub nulls_plan : (f : Bound) → HasForm nulls (list_type t Nullable) → e.scope ≡ list_type t Nullable → IsOverItem e NullItem f
        → IsPlanOf (layout_state name nulls) e (plan_data e (evaluate f.scope f.expr (leaf u y xs)))
    nulls_plan f form scope over = record {
      expr = refl;
      numbered = refl;
      dtype = over.dtype;
      rows = let a = (form.2).1 in let b : total_rows xs ≡ r = ((form.3.1.1.0).2).0 in omega (arith, a, b);
      value = λ store i low. ap (λ v. eval f.scope f.expr v 0) (sym (null_row store i form scope)) ∙ over.values (row_value nulls store i) 0;
      overflow = λ store i low. ap (λ v. overflows f.scope f.expr v 0) (sym (null_row store i form scope)) ∙ over.overflow (row_value nulls store i) 0;
      wants = λ store here first mask id holds low w. validity_may law name t rows q el sp gs e u r xs y ks ls (λ (z : Place). z.id == id) (λ (z : Place). z.id == id) (λ z h. h) store first mask (form.3.1.1.0).0 scope w;
      spoils = λ store here first mask id holds low w. validity_may law name t rows q el sp gs e u r xs y ks ls (λ (z : Place). (z.id == id) && is_bad z (here id)) (λ (z : Place). (z.id == id) && has_flaw nulls store z)
          (λ z. bytes_flawed nulls (to_validity ∷ z.path) store here id z holds) store first mask (form.3.1.1.0).0 scope w;
      exact = λ free. tt;
    }

-- ---- plans that are made of copies
pub nothing_of : (e d : Bound) → d ≡ e → IsNeverNull e.scope → necessary e.expr ≡ Validity → reads d.scope d.expr ≡ false
nothing_of e d same never is = ap (λ (b : Bound). reads b.scope b.expr) same ∙ ap (λ (t : DataType). reads t e.expr) never.1 ∙ reads_nothing never.0 e.expr is

pub never_null_made : (e d : Bound) (p : PlanTree) → d ≡ e → p ≡ constant d.scope d.expr → necessary e.expr ≡ Validity → IsNeverNullPlan e p
never_null_made e d p same is class name t rows q el sp gs ls scope =
    let at : p ≡ constant e.scope e.expr = is ∙ (λ i. constant (same i).scope (same i).expr) in
    subst (λ (z : PlanTree). IsPlanOf (layout_state name (list_layout t NonNullable rows q el sp gs ls)) e (plan_data e z)) (sym at) (never_null_plan name t rows q el sp gs e ls scope class)

pub nulls_made : {E : Type 0} → NecessaryIsNeeded → (e f : Bound) (v : LeafReader) (l : PlanTree) (r : Result PlanTree E) → IsOverItem e NullItem f → l ≡ leaf v.dtype.value v.spelling v.runs.value
    → IfOk r (λ p. p ≡ evaluate f.scope f.expr l) → IfOk r (IsNullsPlan e v)
nulls_made law e f v l (Ok p) over same is = λ name t rows q el sp gs ls scope form.
    subst (λ (z : PlanTree). IsPlanOf (layout_state name (list_layout t Nullable rows q el sp gs (child (leaf_of v) ls))) e (plan_data e z)) (sym (is ∙ ap (evaluate f.scope f.expr) same))
    (nulls_plan law name t rows q el sp gs e v.dtype.value (total_rows v.runs.value) v.runs.value v.spelling no_nodes ls f form scope over)
nulls_made law e f v l (Err x) over same is = tt
