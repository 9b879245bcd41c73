-- Nodes over a list's leaves are plans of expressions over the list.
use Rattle.std.proofs.Common.{◌≡◌, ℕ, ap, sym, subst, ◌∙◌}
use Rattle.std.specs.Prelude.{Result, Ok, Err, IfOk}
use Rattle.scan_values.specs.DataType.{DataType, int_type, list_type, nullability_of}
use Rattle.scan_values.specs.declared.ptype.Nullability.TheVariants.{NonNullable, Nullable}
use Rattle.scan_values.specs.declared.ptype.PType.TheVariants.{U64}
use Rattle.scan_expr.specs.Bound.{Bound}
use Rattle.scan_layout.specs.Layout.{child}
use Rattle.scan_partition.specs.Lists.{necessary, IsClass}
use Rattle.scan_partition.specs.ListUses.{NecessaryIsNeeded}
use Rattle.scan_partition.specs.declared.list_.ListChildrenNeeded.{ListChildrenNeeded}
use Rattle.scan_partition.specs.declared.list_.ListChildrenNeeded.TheVariants.{OffsetsAndValidity, All}
use Rattle.scan_plans.specs.Formed.{AreLengths}
use Rattle.scan_plans.specs.Meaning.{plan_dtype}
use Rattle.scan_plans.specs.OffsetsData.{OffsetsData, offsets_data}
use Rattle.scan_plans.specs.PlanData.{plan_data}
use Rattle.scan_plans.specs.PlanTree.{PlanTree, leaf, evaluate, lists, lengths, valid, by_lengths}
use Rattle.scan_readers.specs.KindView.{leaf_of}
use Rattle.scan_readers.specs.LeafPlans.{layout_state}
use Rattle.scan_readers.specs.ListPlans.{list_layout, list_offsets, IsNeverNull, IsMaybeNull, IsListType, IsByLengthsOf, IsLengthsPlan, IsValidLengthsPlan, IsListsPlan, IsValidListsPlan}
use Rattle.scan_readers.specs.PlanOf.{IsPlanOf}
use Rattle.scan_readers.specs.declared.leaf.LeafReader.{LeafReader}
use Rattle.scan_readers.proofs.ListOf.{over_lists_plan, over_lengths_plan}

-- ---- conditions
pub of_class : (c : ListChildrenNeeded) → c ≡ OffsetsAndValidity → IsClass OffsetsAndValidity c
of_class c h = subst (λ (x : ListChildrenNeeded). IsClass OffsetsAndValidity x) (sym h) (tt {0})

pub never_lengths : (d : DataType) (l : PlanTree) (o : OffsetsData) → IsNeverNull d → l ≡ lengths o → (plan_dtype l ≡ int_type U64 (nullability_of d)) × AreLengths l
never_lengths d l o never is = (
  ap plan_dtype is ∙ ap (λ (x : DataType). int_type U64 (nullability_of x)) (sym never.1),
  subst (λ (p : PlanTree). AreLengths p) (sym is) (tt {0}),
)

pub maybe_lengths : (d : DataType) (l : PlanTree) (m : PlanTree) (v : PlanTree) (o : OffsetsData) → IsMaybeNull d → m ≡ lengths o → l ≡ valid m v → (plan_dtype l ≡ int_type U64 (nullability_of d)) × AreLengths l
maybe_lengths d l m v o maybe under is =
    let at : l ≡ valid (lengths o) v = is ∙ ap (λ (x : PlanTree). valid x v) under in (
      ap plan_dtype at ∙ ap (λ (x : DataType). int_type U64 (nullability_of x)) (sym maybe.1),
      subst (λ (p : PlanTree). AreLengths p) (sym at) (tt {0}),
    )

pub never_lists : (d : DataType) → IsNeverNull d → IsListType d
never_lists d h = (h.0, NonNullable, h.1)

pub maybe_lists : (d : DataType) → IsMaybeNull d → IsListType d
maybe_lists d h = (h.0, Nullable, h.1)

-- ---- plans
pub lengths_made : {E : Type 0} → NecessaryIsNeeded → (e : Bound) (o : LeafReader) (count : ℕ) (d : OffsetsData) (l : PlanTree) (r : Result PlanTree E) → d ≡ offsets_data o.dtype.value o.spelling o.runs.value count → l ≡ lengths d
    → necessary e.expr ≡ OffsetsAndValidity → IfOk r (IsByLengthsOf e l) → IfOk r (IsLengthsPlan e o count)
lengths_made law e o count d l (Ok p) same by class is = λ name t rows q el ls scope numbers counted form.
    let at : d ≡ list_offsets q el o.spelling o.runs.value = same ∙ (λ i. offsets_data (numbers i) o.spelling o.runs.value (sym counted i)) in
    subst (λ (z : PlanTree). IsPlanOf (layout_state name (list_layout t NonNullable rows q el o.spelling o.runs.value ls)) e (plan_data e z))
    (sym (is.2 ∙ ap (λ (x : PlanTree). by_lengths e.scope e.expr is.0.scope is.0.expr x) (by ∙ ap lengths at)))
    (over_lengths_plan law name t rows q el o.spelling o.runs.value e NonNullable ls is.0 OffsetsAndValidity form scope class (λ z. absurd cc) is.1)
lengths_made law e o count d l (Err x) same by class is = tt

pub valid_lengths_made : {E : Type 0} → NecessaryIsNeeded → (e : Bound) (o v : LeafReader) (count : ℕ) (d : OffsetsData) (m l : PlanTree) (r : Result PlanTree E) → d ≡ offsets_data o.dtype.value o.spelling o.runs.value count → m ≡ lengths d
    → l ≡ valid m (leaf v.dtype.value v.spelling v.runs.value) → necessary e.expr ≡ OffsetsAndValidity → IfOk r (IsByLengthsOf e l) → IfOk r (IsValidLengthsPlan e o count v)
valid_lengths_made law e o v count d m l (Ok p) same by under class is = λ name t rows q el ls scope numbers counted form.
    let at : d ≡ list_offsets q el o.spelling o.runs.value = same ∙ (λ i. offsets_data (numbers i) o.spelling o.runs.value (sym counted i)) in
    let whole = under ∙ ap (λ (x : PlanTree). valid x (leaf v.dtype.value v.spelling v.runs.value)) (by ∙ ap lengths at) in
    subst (λ (z : PlanTree). IsPlanOf (layout_state name (list_layout t Nullable rows q el o.spelling o.runs.value (child (leaf_of v) ls))) e (plan_data e z))
    (sym (is.2 ∙ ap (λ (x : PlanTree). by_lengths e.scope e.expr is.0.scope is.0.expr x) whole))
    (over_lengths_plan law name t rows q el o.spelling o.runs.value e Nullable (child (leaf_of v) ls) is.0 OffsetsAndValidity form scope class (λ z. absurd cc) is.1)
valid_lengths_made law e o v count d m l (Err x) same by under class is = tt

pub lists_made : {E : Type 0} → NecessaryIsNeeded → (e f : Bound) (k : PlanTree) (o : LeafReader) (count : ℕ) (d : OffsetsData) (l : PlanTree) (r : Result PlanTree E) → d ≡ offsets_data o.dtype.value o.spelling o.runs.value count
    → l ≡ lists (list_type (plan_dtype k) NonNullable) k d → f ≡ e → necessary e.expr ≡ All → IfOk r (λ p. p ≡ evaluate f.scope f.expr l) → IfOk r (IsListsPlan e k o count)
lists_made law e f k o count d l (Ok p) same by copy class is = λ name t rows q el ls scope numbers counted form plan.
    let at : d ≡ list_offsets q el o.spelling o.runs.value = same ∙ (λ i. offsets_data (numbers i) o.spelling o.runs.value (sym counted i)) in
    let whole = by ∙ (λ i. lists (list_type (plan.dtype i) NonNullable) k (at i)) in
    subst (λ (z : PlanTree). IsPlanOf (layout_state name (list_layout t NonNullable rows q el o.spelling o.runs.value ls)) e (plan_data e z))
    (sym (is ∙ (λ i. evaluate (copy i).scope (copy i).expr (whole i))))
    (over_lists_plan law name t rows q el o.spelling o.runs.value e NonNullable ls k form scope class plan)
lists_made law e f k o count d l (Err x) same by copy class is = tt

pub valid_lists_made : {E : Type 0} → NecessaryIsNeeded → (e f : Bound) (k : PlanTree) (o v : LeafReader) (count : ℕ) (d : OffsetsData) (m l : PlanTree) (r : Result PlanTree E) → d ≡ offsets_data o.dtype.value o.spelling o.runs.value count
    → m ≡ lists (list_type (plan_dtype k) NonNullable) k d → l ≡ valid m (leaf v.dtype.value v.spelling v.runs.value) → f ≡ e → necessary e.expr ≡ All → IfOk r (λ p. p ≡ evaluate f.scope f.expr l) → IfOk r (IsValidListsPlan e k o count v)
valid_lists_made law e f k o v count d m l (Ok p) same by under copy class is = λ name t rows q el ls scope numbers counted form plan.
    let at : d ≡ list_offsets q el o.spelling o.runs.value = same ∙ (λ i. offsets_data (numbers i) o.spelling o.runs.value (sym counted i)) in
    let inner = by ∙ (λ i. lists (list_type (plan.dtype i) NonNullable) k (at i)) in
    let whole = under ∙ ap (λ (x : PlanTree). valid x (leaf v.dtype.value v.spelling v.runs.value)) inner in
    subst (λ (z : PlanTree). IsPlanOf (layout_state name (list_layout t Nullable rows q el o.spelling o.runs.value (child (leaf_of v) ls))) e (plan_data e z))
    (sym (is ∙ (λ i. evaluate (copy i).scope (copy i).expr (whole i))))
    (over_lists_plan law name t rows q el o.spelling o.runs.value e Nullable (child (leaf_of v) ls) k form scope class plan)
valid_lists_made law e f k o v count d m l (Err x) same by under copy class is = tt
