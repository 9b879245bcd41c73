-- Lists of good form by their leaves, and plans over readers of these.
use Rattle.std.proofs.Common.{◌≡◌, ℕ, ◌<◌, ◌≤◌, true, false, List, [], Some, None, Result, Ok, Err, refl, ap, sym, subst, ◌∙◌, arith}
use Rattle.std.specs.Prelude.{IfOk, option_map}
use Rattle.scan_values.specs.DataType.{DataType, Name, depth_of, bool_type, int_type, utf8_type, list_type, struct_type, nullability_of}
use Rattle.scan_values.specs.declared.ptype.Nullability.{Nullability}
use Rattle.scan_values.specs.declared.ptype.Nullability.TheVariants.{NonNullable, Nullable}
use Rattle.scan_values.specs.declared.ptype.PType.{PType}
use Rattle.scan_values.specs.NameFaults.{dtype_fault}
use Rattle.scan_expr.specs.Bound.{Bound, bound_of}
use Rattle.scan_expr.specs.Expr.{root}
use Rattle.scan_layout.specs.declared.node.LayoutKind.TheVariants.{Leaf, Struct, List as List'}
use Rattle.scan_spelling.specs.declared.spelling.Spelling.{Spelling}
use Rattle.scan_layout.specs.Check.{serves, validity_types}
use Rattle.scan_layout.specs.Form.{HasForm, HaveForms}
use Rattle.scan_layout.specs.Layout.{Layout, Nodes, node, no_nodes, child, count, dtype_of, kids_of, kind_of, rows_of}
use Rattle.scan_layout.specs.Slots.{nth_kid, is_list_kind}
use Rattle.scan_partition.specs.Partable.{IsPartable}
use Rattle.scan_plans.specs.Formed.{NeverOverflows}
use Rattle.scan_plans.specs.Meaning.{plan_dtype}
use Rattle.scan_plans.specs.OffsetsData.{AreNumbers}
use Rattle.scan_plans.specs.PlanData.{plan_data}
use Rattle.scan_plans.specs.PlanTree.{PlanTree}
use Rattle.scan_readers.specs.KindView.{leaf_of}
use Rattle.scan_readers.specs.LeafPlans.{layout_state, leaf_layout, is_leaf}
use Rattle.scan_readers.specs.ListKids.{IsList, HasLeaf, IsValidityOf}
use Rattle.scan_readers.specs.ListPlans.{list_layout, IsNeverNull, IsMaybeNull, IsNeverNullPlan, IsNullsPlan, IsLengthsPlan, IsValidLengthsPlan, IsListsPlan, IsValidListsPlan}
use Rattle.scan_readers.specs.PlanOf.{IsPlanOf}
use Rattle.scan_readers.specs.Reached.{elements_part}
use Rattle.scan_readers.specs.StructPlans.{IsOverChild, IsPartPlan}
use Rattle.scan_readers.specs.declared.leaf.LeafReader.{LeafReader}
use Rattle.scan_readers.proofs.ListOf.{elements_calm}
use Rattle.scan_readers.proofs.PlansOf.{leaf_is}

-- what holds of each list of good form
abbrev pub ForLists : (Layout → Type 0) → Type 0
ForLists P =
    (t : DataType) (n : Nullability) (rows : ℕ) (q : PType) (el : Layout) (sp : Spelling) (gs : List (ℕ × ℕ)) (ls : Nodes) → HasForm (list_layout t n rows q el sp gs ls) (list_type t n) → P (list_layout t n rows q el sp gs ls)

by_offsets : (P : Layout → Type 0) → ForLists P → (t : DataType) (n : Nullability) (rows : ℕ) (q : PType) (el o : Layout) (ls : Nodes) → HasForm (node (list_type t n) rows (List' q) (child el (child o ls))) (list_type t n) → P (node (list_type t n) rows (List' q) (child el (child o ls)))
by_offsets P f t n rows q el (node u r (Leaf gs sp) ks) ls form =
    let off : HasForm (node u r (Leaf gs sp) ks) (int_type q NonNullable) = form.3.1.0 in
    let is : leaf_layout (int_type q NonNullable) sp gs ≡ node u r (Leaf gs sp) ks = ap (λ (d : DataType). leaf_layout d sp gs) (sym off.0) ∙ leaf_is u r gs sp ks (refl, off.1, off.2, off.3) in
    let P' : Layout → Type 0 = λ z. P (node (list_type t n) rows (List' q) (child el (child z ls))) in
    let F : Layout → Type 0 = λ z. HasForm (node (list_type t n) rows (List' q) (child el (child z ls))) (list_type t n) in
    subst P' is (f t n rows q el sp gs ls (subst F (sym is) form))
by_offsets P f t n rows q el (node u r Struct ks) ls form =
    let off : HasForm (node u r Struct ks) (int_type q NonNullable) = form.3.1.0 in
    absurd (let z : false ≡ true = subst (λ (d : DataType). serves Struct d ≡ true) off.0 off.1 in cc)
by_offsets P f t n rows q el (node u r (List' x) ks) ls form =
    let off : HasForm (node u r (List' x) ks) (int_type q NonNullable) = form.3.1.0 in
    absurd (let z : false ≡ true = subst (λ (d : DataType). serves (List' x) d ≡ true) off.0 off.1 in cc)

by_kids : (P : Layout → Type 0) → ForLists P → (t : DataType) (n : Nullability) (rows : ℕ) (q : PType) (kids : Nodes) → HasForm (node (list_type t n) rows (List' q) kids) (list_type t n) → P (node (list_type t n) rows (List' q) kids)
by_kids P f t n rows q no_nodes form = absurd form.3
by_kids P f t n rows q (child el no_nodes) form = absurd form.3.1
by_kids P f t n rows q (child el (child o ls)) form = by_offsets P f t n rows q el o ls form

by_type : (P : Layout → Type 0) → ForLists P → (d : DataType) (rows : ℕ) (q : PType) (kids : Nodes) → HasForm (node d rows (List' q) kids) d → P (node d rows (List' q) kids)
by_type P f (list_type t n) rows q kids form = by_kids P f t n rows q kids form
by_type P f (bool_type n) rows q kids form = absurd (let z : false ≡ true = form.1 in cc)
by_type P f (int_type p n) rows q kids form = absurd (let z : false ≡ true = form.1 in cc)
by_type P f (utf8_type n) rows q kids form = absurd (let z : false ≡ true = form.1 in cc)
by_type P f (struct_type fs n) rows q kids form = absurd (let z : false ≡ true = form.1 in cc)

pub for_lists : (P : Layout → Type 0) → ForLists P → (l : Layout) → IsList l → P l
for_lists P f (node t rows (List' q) kids) h = by_type P f t rows q kids h.form
for_lists P f (node t rows Struct kids) h = absurd (let z : false ≡ true = h.kind in cc)
for_lists P f (node t rows (Leaf gs sp) kids) h = absurd (let z : false ≡ true = h.kind in cc)

pub struct_kind : (l : Layout) → is_leaf l ≡ false → is_list_kind (kind_of l) ≡ false → kind_of l ≡ Struct
struct_kind (node t rows (List' q) kids) a b = absurd (let z : true ≡ false = b in cc)
struct_kind (node t rows Struct kids) a b = refl
struct_kind (node t rows (Leaf gs sp) kids) a b = absurd (let z : true ≡ false = a in cc)

form_type : (l : Layout) (t : DataType) → HasForm l t → dtype_of l ≡ t
form_type (node d rows kind kids) t h = h.0

-- ---- the leaves
pub offsets_leaf : (l : Layout) → IsList l → HasLeaf l 1
offsets_leaf = for_lists (λ l. HasLeaf l 1) (λ t n rows q el sp gs ls form. record { layout = leaf_layout (int_type q NonNullable) sp gs; kid = refl; leaf = refl })

valid_leaf : (k : ℕ) (x : Layout) → HasForm x (bool_type NonNullable) → is_leaf x ≡ true
valid_leaf k (node u r (Leaf gs sp) ks) h = refl
valid_leaf k (node u r Struct ks) h = absurd (let z : false ≡ true = subst (λ (d : DataType). serves Struct d ≡ true) h.0 h.1 in cc)
valid_leaf k (node u r (List' q) ks) h = absurd (let z : false ≡ true = subst (λ (d : DataType). serves (List' q) d ≡ true) h.0 h.1 in cc)

pub validity_leaf : (l : Layout) → IsList l → nullability_of (dtype_of l) ≡ Nullable → HasLeaf l 2
validity_leaf = for_lists (λ l. nullability_of (dtype_of l) ≡ Nullable → HasLeaf l 2) (λ t n rows q el sp gs ls form. by t n rows q el sp gs ls form.3.1.1)
  where
    by : (t : DataType) (n : Nullability) (rows : ℕ) (q : PType) (el : Layout) (sp : Spelling) (gs : List (ℕ × ℕ)) (ls : Nodes) → HaveForms ls (validity_types n) → n ≡ Nullable → HasLeaf (list_layout t n rows q el sp gs ls) 2
    by t NonNullable rows q el sp gs ls forms e = absurd (let z : NonNullable ≡ Nullable = e in cc)
    by t Nullable rows q el sp gs no_nodes forms e = absurd forms
    by t Nullable rows q el sp gs (child x ls) forms e = record { layout = x; kid = refl; leaf = valid_leaf 2 x forms.0 }

pub never_null : (l : Layout) → IsList l → IsValidityOf l None → IsNeverNull (dtype_of l)
never_null = for_lists (λ l. IsValidityOf l None → IsNeverNull (dtype_of l)) (λ t n rows q el sp gs ls form. by t n rows q el sp gs ls form.3.1.1)
  where
    by : (t : DataType) (n : Nullability) (rows : ℕ) (q : PType) (el : Layout) (sp : Spelling) (gs : List (ℕ × ℕ)) (ls : Nodes) → HaveForms ls (validity_types n) → IsValidityOf (list_layout t n rows q el sp gs ls) None → IsNeverNull (list_type t n)
    by t NonNullable rows q el sp gs ls forms e = (t, refl)
    by t Nullable rows q el sp gs no_nodes forms e = absurd forms
    by t Nullable rows q el sp gs (child x ls) forms e = absurd (let z : None ≡ Some x = e in cc)

pub maybe_null : (l : Layout) (v : LeafReader) → IsList l → IsValidityOf l (Some v) → IsMaybeNull (dtype_of l) × (v.dtype.value ≡ bool_type NonNullable)
maybe_null l v = for_lists (λ m. IsValidityOf m (Some v) → IsMaybeNull (dtype_of m) × (v.dtype.value ≡ bool_type NonNullable)) (λ t n rows q el sp gs ls form. by t n rows q el sp gs ls form.3.1.1) l
  where
    by : (t : DataType) (n : Nullability) (rows : ℕ) (q : PType) (el : Layout) (sp : Spelling) (gs : List (ℕ × ℕ)) (ls : Nodes) → HaveForms ls (validity_types n) → IsValidityOf (list_layout t n rows q el sp gs ls) (Some v) → IsMaybeNull (list_type t n) × (v.dtype.value ≡ bool_type NonNullable)
    by t NonNullable rows q el sp gs ls forms e = absurd (let z : Some (leaf_of v) ≡ None = e in cc)
    by t Nullable rows q el sp gs no_nodes forms e = absurd forms
    by t Nullable rows q el sp gs (child x ls) forms e = (let same : leaf_of v ≡ x = (let z : Some (leaf_of v) ≡ Some x = e in cc) in ((t, refl), ap dtype_of same ∙ form_type x (bool_type NonNullable) forms.0))

pub numbers : (l : Layout) (o : LeafReader) → IsList l → nth_kid (kids_of l) 1 ≡ Some (leaf_of o) → AreNumbers o.dtype.value
numbers l o = for_lists (λ m. nth_kid (kids_of m) 1 ≡ Some (leaf_of o) → AreNumbers o.dtype.value)
    (λ t n rows q el sp gs ls form e. (q, (let z : Some (leaf_layout (int_type q NonNullable) sp gs) ≡ Some (leaf_of o) = e in let same : leaf_layout (int_type q NonNullable) sp gs ≡ leaf_of o = cc in sym (ap dtype_of same)))) l

-- ---- the elements
pub over_elements : (l : Layout) (e : Bound) → IsList l → e.scope ≡ dtype_of l → IsPartable e → IsOverChild l (elements_part l)
over_elements l e = for_lists (λ m. e.scope ≡ dtype_of m → IsPartable e → IsOverChild m (elements_part m)) (λ t n rows q el sp gs ls form scope partable.
    let names = subst (λ (d : DataType). dtype_fault d ≡ None) scope partable.names in
    let deep : depth_of (list_type t n) ≤ 64 = subst (λ (d : DataType). depth_of d ≤ 64) scope partable.scope in
    record {
      layout = el;
      kid = refl;
      scope = sym (form_type el t form.3.0);
      partable = record { names = names; scope = omega (arith, deep); typed = refl; nodes = omega (arith, deep) };
      unnumbered = refl;
    }) l

pub elements_plan : (l : Layout) (k : PlanTree) → IsList l → IsPartPlan (kids_of l) (elements_part l) k → (c : ℕ) → option_map rows_of (nth_kid (kids_of l) 0) ≡ Some c → NeverOverflows k c
elements_plan l k = for_lists (λ m. IsPartPlan (kids_of m) (elements_part m) k → (c : ℕ) → option_map rows_of (nth_kid (kids_of m) 0) ≡ Some c → NeverOverflows k c) (λ t n rows q el sp gs ls form part c e.
    let same : el ≡ part.layout = (let z : Some el ≡ Some part.layout = part.kid in cc) in
    let plan : IsPlanOf (layout_state [] el) (bound_of t root) (plan_data (bound_of t root) k) = subst (λ (x : Layout). IsPlanOf (layout_state [] x) (bound_of t root) (plan_data (bound_of t root) k)) (sym same) (part.plan []) in
    let count : rows_of el ≡ c = (let z : Some (rows_of el) ≡ Some c = e in cc) in
    subst (λ (x : ℕ). NeverOverflows k x) count (elements_calm [] el t k plan)) l

pub elements_type : (l : Layout) (k : PlanTree) → IsList l → IsPartPlan (kids_of l) (elements_part l) k → (n : Nullability) → nullability_of (dtype_of l) ≡ n → dtype_of l ≡ list_type (plan_dtype k) n
elements_type l k = for_lists (λ m. IsPartPlan (kids_of m) (elements_part m) k → (n : Nullability) → nullability_of (dtype_of m) ≡ n → dtype_of m ≡ list_type (plan_dtype k) n) (λ t n rows q el sp gs ls form part m e.
    let own : plan_dtype k ≡ t = (part.plan []).dtype in
    λ i. list_type (sym own i) (e i)) l

-- ---- plans
-- a plan of an expression over a layout
abbrev pub Plans : Layout → Bound → PlanTree → Type 0
Plans l e p = (name : Name) → IsPlanOf (layout_state name l) e (plan_data e p)

module _ (t : DataType) (n : Nullability) (rows : ℕ) (q : PType) (el : Layout) (sp : Spelling) (gs : List (ℕ × ℕ)) (ls : Nodes) (o : LeafReader) (is : Some (leaf_layout (int_type q NonNullable) sp gs) ≡ Some (leaf_of o)) where
  pub own_numbers : o.dtype.value ≡ int_type q NonNullable
  own_numbers = let same : leaf_layout (int_type q NonNullable) sp gs ≡ leaf_of o = cc in sym (ap dtype_of same)

  pub own_list : list_layout t n rows q el o.spelling o.runs.value ls ≡ list_layout t n rows q el sp gs ls
  own_list =
      let same : leaf_layout (int_type q NonNullable) sp gs ≡ leaf_of o = cc in
      let whole : leaf_layout (int_type q NonNullable) o.spelling o.runs.value ≡ leaf_layout (int_type q NonNullable) sp gs = ap (λ (d : DataType). leaf_layout d o.spelling o.runs.value) (sym own_numbers) ∙ sym same in
      ap (λ (z : Layout). node (list_type t n) rows (List' q) (child el (child z ls))) whole

never_by : (e : Bound) (p : PlanTree) → IsNeverNullPlan e p → (l : Layout) → IsList l → IsValidityOf l None → e.scope ≡ dtype_of l → Plans l e p
never_by e p h = for_lists (λ m. IsValidityOf m None → e.scope ≡ dtype_of m → Plans m e p) (λ t n rows q el sp gs ls form. by t n rows q el sp gs ls form.3.1.1)
  where
    by : (t : DataType) (n : Nullability) (rows : ℕ) (q : PType) (el : Layout) (sp : Spelling) (gs : List (ℕ × ℕ)) (ls : Nodes) → HaveForms ls (validity_types n) → IsValidityOf (list_layout t n rows q el sp gs ls) None → e.scope ≡ list_type t n → Plans (list_layout t n rows q el sp gs ls) e p
    by t NonNullable rows q el sp gs ls forms v scope = λ name. h name t rows q el sp gs ls scope
    by t Nullable rows q el sp gs no_nodes forms v scope = absurd forms
    by t Nullable rows q el sp gs (child x ls) forms v scope = absurd (let z : None ≡ Some x = v in cc)

pub never_plan : {E : Type 0} (l : Layout) (e : Bound) (r : Result PlanTree E) → IsList l → IsValidityOf l None → e.scope ≡ dtype_of l → IfOk r (IsNeverNullPlan e) → IfOk r (Plans l e)
never_plan l e (Ok p) list v scope h = never_by e p h l list v scope
never_plan l e (Err f) list v scope h = tt

-- a plan for each list with this validity is one for a list that has it
with_valid : (e : Bound) (p : PlanTree) (v : LeafReader) (t : DataType) (n : Nullability) (rows : ℕ) (q : PType) (el : Layout) (sp : Spelling) (gs : List (ℕ × ℕ)) (ls : Nodes)
    → ((rest : Nodes) → e.scope ≡ list_type t Nullable → HasForm (list_layout t Nullable rows q el sp gs (child (leaf_of v) rest)) (list_type t Nullable) → Plans (list_layout t Nullable rows q el sp gs (child (leaf_of v) rest)) e p)
    → HasForm (list_layout t n rows q el sp gs ls) (list_type t n) → IsValidityOf (list_layout t n rows q el sp gs ls) (Some v) → e.scope ≡ list_type t n → Plans (list_layout t n rows q el sp gs ls) e p
with_valid e p v t NonNullable rows q el sp gs ls h form own scope = absurd (let z : Some (leaf_of v) ≡ None = own in cc)
with_valid e p v t Nullable rows q el sp gs no_nodes h form own scope = absurd form.3.1.1
with_valid e p v t Nullable rows q el sp gs (child x ls) h form own scope =
    let same : leaf_of v ≡ x = (let z : Some (leaf_of v) ≡ Some x = own in cc) in
    let F : Layout → Type 0 = λ y. HasForm (list_layout t Nullable rows q el sp gs (child y ls)) (list_type t Nullable) in
    subst (λ (y : Layout). Plans (list_layout t Nullable rows q el sp gs (child y ls)) e p) same (h ls scope (subst F (sym same) form))

-- the same of lists without one
with_none : (e : Bound) (p : PlanTree) (t : DataType) (n : Nullability) (rows : ℕ) (q : PType) (el : Layout) (sp : Spelling) (gs : List (ℕ × ℕ)) (ls : Nodes)
    → (e.scope ≡ list_type t NonNullable → HasForm (list_layout t NonNullable rows q el sp gs ls) (list_type t NonNullable) → Plans (list_layout t NonNullable rows q el sp gs ls) e p)
    → HasForm (list_layout t n rows q el sp gs ls) (list_type t n) → IsValidityOf (list_layout t n rows q el sp gs ls) None → e.scope ≡ list_type t n → Plans (list_layout t n rows q el sp gs ls) e p
with_none e p t NonNullable rows q el sp gs ls h form own scope = h scope form
with_none e p t Nullable rows q el sp gs no_nodes h form own scope = absurd form.3.1.1
with_none e p t Nullable rows q el sp gs (child x ls) h form own scope = absurd (let z : None ≡ Some x = own in cc)

pub nulls_plan : {E : Type 0} (l : Layout) (e : Bound) (v : LeafReader) (r : Result PlanTree E) → IsList l → IsValidityOf l (Some v) → e.scope ≡ dtype_of l → IfOk r (IsNullsPlan e v) → IfOk r (Plans l e)
nulls_plan l e v (Ok p) list own scope h =
    for_lists (λ m. IsValidityOf m (Some v) → e.scope ≡ dtype_of m → Plans m e p) (λ t n rows q el sp gs ls form. with_valid e p v t n rows q el sp gs ls (λ rest s f name. h name t rows q el sp gs rest s f) form) l list own scope
nulls_plan l e v (Err f) list own scope h = tt

-- over any offsets that are those of the list
by_own : (e : Bound) (p : PlanTree) (t : DataType) (n : Nullability) (rows : ℕ) (q : PType) (el : Layout) (sp : Spelling) (gs : List (ℕ × ℕ)) (ls : Nodes) (o : LeafReader) → Some (leaf_layout (int_type q NonNullable) sp gs) ≡ Some (leaf_of o)
    → (HasForm (list_layout t n rows q el o.spelling o.runs.value ls) (list_type t n) → Plans (list_layout t n rows q el o.spelling o.runs.value ls) e p)
    → HasForm (list_layout t n rows q el sp gs ls) (list_type t n) → Plans (list_layout t n rows q el sp gs ls) e p
by_own e p t n rows q el sp gs ls o is h form =
    let same = own_list t n rows q el sp gs ls o is in
    subst (λ (m : Layout). Plans m e p) same (h (subst (λ (m : Layout). HasForm m (list_type t n)) (sym same) form))

counted : (el : Layout) (c : ℕ) → Some (rows_of el) ≡ Some c → rows_of el ≡ c
counted el c e = cc

pub lengths_plan : {E : Type 0} (l : Layout) (e : Bound) (o : LeafReader) (c : ℕ) (r : Result PlanTree E) → IsList l → nth_kid (kids_of l) 1 ≡ Some (leaf_of o)
    → IsValidityOf l None → option_map rows_of (nth_kid (kids_of l) 0) ≡ Some c → e.scope ≡ dtype_of l → IfOk r (IsLengthsPlan e o c) → IfOk r (Plans l e)
lengths_plan l e o c (Ok p) list off own count scope h =
    for_lists (λ m. nth_kid (kids_of m) 1 ≡ Some (leaf_of o) → IsValidityOf m None → option_map rows_of (nth_kid (kids_of m) 0) ≡ Some c → e.scope ≡ dtype_of m → Plans m e p) (λ t n rows q el sp gs ls form is none some.
    with_none e p t n rows q el sp gs ls (λ s f. by_own e p t NonNullable rows q el sp gs ls o is (λ g name. h name t rows q el ls s (own_numbers t n rows q el sp gs ls o is) (counted el c some) g) f) form none) l list off own count scope
lengths_plan l e o c (Err f) list off own count scope h = tt

pub valid_lengths_plan : {E : Type 0} (l : Layout) (e : Bound) (o : LeafReader) (c : ℕ) (v : LeafReader) (r : Result PlanTree E) → IsList l
    → nth_kid (kids_of l) 1 ≡ Some (leaf_of o) → IsValidityOf l (Some v) → option_map rows_of (nth_kid (kids_of l) 0) ≡ Some c → e.scope ≡ dtype_of l
    → IfOk r (IsValidLengthsPlan e o c v) → IfOk r (Plans l e)
valid_lengths_plan l e o c v (Ok p) list off own count scope h =
    for_lists (λ m. nth_kid (kids_of m) 1 ≡ Some (leaf_of o) → IsValidityOf m (Some v) → option_map rows_of (nth_kid (kids_of m) 0) ≡ Some c → e.scope ≡ dtype_of m → Plans m e p) (λ t n rows q el sp gs ls form is there some.
    with_valid e p v t n rows q el sp gs ls (λ rest s f. by_own e p t Nullable rows q el sp gs (child (leaf_of v) rest) o is (λ g name. h name t rows q el rest s (own_numbers t n rows q el sp gs ls o is) (counted el c some) g) f) form there) l list off own count scope
valid_lengths_plan l e o c v (Err f) list off own count scope h = tt

element_plan : (t : DataType) (el : Layout) (kids : Nodes) (k : PlanTree) (name : Name) → IsPartPlan (child el kids) (0, bound_of t root) k → IsPlanOf (layout_state name el) (bound_of t root) (plan_data (bound_of t root) k)
element_plan t el kids k name part =
    let same : el ≡ part.layout = (let z : Some el ≡ Some part.layout = part.kid in cc) in
    subst (λ (x : Layout). IsPlanOf (layout_state name x) (bound_of t root) (plan_data (bound_of t root) k)) (sym same) (part.plan name)

pub all_plan : {E : Type 0} (l : Layout) (e : Bound) (k : PlanTree) (o : LeafReader) (c : ℕ) (r : Result PlanTree E) → IsList l
    → IsPartPlan (kids_of l) (elements_part l) k → nth_kid (kids_of l) 1 ≡ Some (leaf_of o) → IsValidityOf l None
    → option_map rows_of (nth_kid (kids_of l) 0) ≡ Some c → e.scope ≡ dtype_of l → IfOk r (IsListsPlan e k o c) → IfOk r (Plans l e)
all_plan l e k o c (Ok p) list part off own count scope h =
    for_lists (λ m. IsPartPlan (kids_of m) (elements_part m) k → nth_kid (kids_of m) 1 ≡ Some (leaf_of o) → IsValidityOf m None → option_map rows_of (nth_kid (kids_of m) 0) ≡ Some c → e.scope ≡ dtype_of m → Plans m e p) (λ t n rows q el sp gs ls form each is none some.
    with_none e p t n rows q el sp gs ls (λ s f. by_own e p t NonNullable rows q el sp gs ls o is (λ g name. h name t rows q el ls s (own_numbers t n rows q el sp gs ls o is) (counted el c some) g (element_plan t el _ k name each)) f) form none) l list part off own count scope
all_plan l e k o c (Err f) list part off own count scope h = tt

pub valid_all_plan : {E : Type 0} (l : Layout) (e : Bound) (k : PlanTree) (o : LeafReader) (c : ℕ) (v : LeafReader) (r : Result PlanTree E) → IsList l
    → IsPartPlan (kids_of l) (elements_part l) k → nth_kid (kids_of l) 1 ≡ Some (leaf_of o) → IsValidityOf l (Some v)
    → option_map rows_of (nth_kid (kids_of l) 0) ≡ Some c → e.scope ≡ dtype_of l → IfOk r (IsValidListsPlan e k o c v) → IfOk r (Plans l e)
valid_all_plan l e k o c v (Ok p) list part off own count scope h =
    for_lists (λ m. IsPartPlan (kids_of m) (elements_part m) k → nth_kid (kids_of m) 1 ≡ Some (leaf_of o) → IsValidityOf m (Some v) → option_map rows_of (nth_kid (kids_of m) 0) ≡ Some c → e.scope ≡ dtype_of m → Plans m e p) (λ t n rows q el sp gs ls form each is there some.
    with_valid e p v t n rows q el sp gs ls (λ rest s f. by_own e p t Nullable rows q el sp gs (child (leaf_of v) rest) o is
    (λ g name. h name t rows q el rest s (own_numbers t n rows q el sp gs ls o is) (counted el c some) g (element_plan t el _ k name each)) f) form there) l
    list part off own count scope
valid_all_plan l e k o c v (Err f) list part off own count scope h = tt

pub kid_leaf : {E : Type 0} (r : Result LeafReader E) (ls : Nodes) (k : ℕ) (l : Layout) → nth_kid ls k ≡ Some l → IfOk r (λ x. leaf_of x ≡ l) → IfOk r (λ x. nth_kid ls k ≡ Some (leaf_of x))
kid_leaf (Ok x) ls k l kid is = kid ∙ ap Some (sym is)
kid_leaf (Err f) ls k l kid is = tt

pub kid_is_leaf : (ls : Nodes) (k : ℕ) (a b : Layout) → nth_kid ls k ≡ Some a → nth_kid ls k ≡ Some b → is_leaf a ≡ true → is_leaf b ≡ true
kid_is_leaf ls k a b p q h = let both : Some a ≡ Some b = sym p ∙ q in let same : a ≡ b = cc in subst (λ (l : Layout). is_leaf l ≡ true) same h

pub element_below : (l : Layout) → IsList l → 0 < count (kids_of l)
element_below = for_lists (λ l. 0 < count (kids_of l)) (λ t n rows q el sp gs ls form. omega arith)
