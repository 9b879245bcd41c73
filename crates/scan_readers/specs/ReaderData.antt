-- What a reader of a layout is.
use Rattle.std.specs.Prelude.{List, refl}
use Rattle.std.specs.Coded.{Coded, code_by, coded×, coded_list, coded_ℕ}
use Rattle.scan_values.specs.DataType.{Name}
use Rattle.scan_layout.specs.Contexts.{Context, context_code}
use Rattle.scan_layout.specs.Layout.{Layout}
use Rattle.scan_layout.specs.LayoutCode.{layout_code}
use Rattle.scan_plans.specs.PlanData.{PlanData, plan_data_code, EachPlan}
use Rattle.scan_readers.specs.StructData.{IsReadable}
use Rattle.scan_readers.specs.Made.{Made, made_code}
use Rattle.scan_readers.specs.LeafPlans.{layout_state}
use Rattle.scan_readers.specs.PlanOf.{IsPlanOf}

-- a name, the layout, what of its children is made, the values that its readers share by ids, and the plans that are kept
pub record ReaderData (V : Type 0) : Type 0 where
  pub name : Name
  pub layout : Layout
  pub made : Made
  pub shared : Context V
  pub kept : List PlanData

abbrev pub ReaderParts : Type 0 → Type 0
ReaderParts V = Name × (Layout × (Made × (Context V × List PlanData)))

abbrev pub parts_code : {V : Type 0} → Coded V → Coded (ReaderParts V)
parts_code v = coded× (coded_list coded_ℕ) (coded× layout_code (coded× made_code (coded× (context_code v) (coded_list plan_data_code))))

abbrev pub reader_code : {V : Type 0} → Coded V → Coded (ReaderData V)
reader_code {V} v = code_by (ReaderParts V) (parts_code v) (λ a. (a.name, (a.layout, (a.made, (a.shared, a.kept)))))
    (λ p. record { name = p.0; layout = p.1.0; made = p.1.1.0; shared = p.1.1.1.0; kept = p.1.1.1.1 }) (λ _. refl)

abbrev pub reader_data : {V : Type 0} → Name → Layout → Made → Context V → List PlanData → ReaderData V
reader_data name l m shared kept = record { name = name; layout = l; made = m; shared = shared; kept = kept }

-- the layout can be read, and the plans that are kept are plans of it
pub record IsReader (name : Name) (l : Layout) (plans : List PlanData) : Type 0 where
  pub readable : IsReadable l
  pub kept : EachPlan (λ p. IsPlanOf (layout_state name l) p.expr p) plans
