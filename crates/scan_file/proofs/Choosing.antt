-- Why a layout is not read, and what one is that has no fault.
use Rattle.std.proofs.Common.{◌≡◌, Bool, true, false, not, Option, Some, None, refl, sym, ap, subst, ◌∙◌}
use Rattle.scan_values.specs.DataType.{DataType}
use Rattle.scan_values.specs.Same.{same_type, same_type-Decides}
use Rattle.scan_partition.specs.Partable.{IsScope}
use Rattle.scan_layout.specs.Check.{first_fault}
use Rattle.scan_layout.specs.Form.{HasForm}
use Rattle.scan_layout.specs.Layout.{Layout, dtype_of, rows_of}
use Rattle.scan_layout.specs.declared.fault.LayoutFault.{LayoutFault}
use Rattle.scan_layout.proofs.Forms.{well_formed}
use Rattle.scan_file.specs.FileAsks.{FileAsk, IsAsk, asked_dtype}
use Rattle.scan_file.specs.Openings.{ends_past, form_fault, layout_fault, typed_fault}
use Rattle.scan_file.specs.declared.fault.FileFault.TheVariants as fault

not_same : (b : Bool) → true ≡ not b → b ≡ false
not_same true e = absurd cc
not_same false e = refl

is_same : (b : Bool) → false ≡ not b → b ≡ true
is_same true e = refl
is_same false e = absurd cc

-- ---- the first fault
module _ (a : FileAsk) (l : Layout) (d e : DataType) (own : d ≡ dtype_of l) (asked : e ≡ asked_dtype a) where
  both : same_type (dtype_of l) (asked_dtype a) ≡ same_type d e
  both = λ k. same_type (sym own k) (sym asked k)

  pub fault_other : true ≡ not (same_type d e) → Some fault.DTypeMismatch ≡ layout_fault a l
  fault_other h = sym (ap (λ b. typed_fault b (first_fault l (asked_dtype a)) (ends_past a.range (rows_of l))) (both ∙ not_same (same_type d e) h))

  pub fault_formed : false ≡ not (same_type d e) → (o : Option LayoutFault) → first_fault l e ≡ o → layout_fault a l ≡ form_fault o (ends_past a.range (rows_of l))
  fault_formed h o f =
      ap (λ b. typed_fault b (first_fault l (asked_dtype a)) (ends_past a.range (rows_of l))) (both ∙ is_same (same_type d e) h)
      ∙ ap (λ x. form_fault x (ends_past a.range (rows_of l))) (ap (first_fault l) (sym asked) ∙ f)

-- ---- no fault
parts : (same : Bool) (form : Option LayoutFault) (past : Bool) → typed_fault same form past ≡ None → (same ≡ true) × (form ≡ None) × (past ≡ false)
parts true None false e = (refl, refl, refl)
parts true None true e = absurd cc
parts true (Some f) past e = absurd cc
parts false form past e = absurd cc

module _ (a : FileAsk) (l : Layout) (good : layout_fault a l ≡ None) where
  none_of : (same_type (dtype_of l) (asked_dtype a) ≡ true) × (first_fault l (asked_dtype a) ≡ None) × (ends_past a.range (rows_of l) ≡ false)
  none_of = parts (same_type (dtype_of l) (asked_dtype a)) (first_fault l (asked_dtype a)) (ends_past a.range (rows_of l)) good

  pub of_type : dtype_of l ≡ asked_dtype a
  of_type = (same_type-Decides (dtype_of l) (asked_dtype a)).0 none_of.0

  pub of_form : HasForm l (dtype_of l)
  of_form = subst (λ t. HasForm l t) (sym of_type) (well_formed l (asked_dtype a) none_of.1).1

  pub not_past : ends_past a.range (rows_of l) ≡ false
  not_past = none_of.2

  pub of_scope : IsAsk a → IsScope (dtype_of l)
  of_scope is = subst IsScope (sym of_type) (is.bound.names, is.bound.scope)
