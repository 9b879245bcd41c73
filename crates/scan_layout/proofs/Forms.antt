-- A layout has no fault exactly where it has the form.
use Rattle.std.proofs.Common.{◌≡◌, ℕ, ◌+◌, ◌<◌, ◌≤◌, ◌^◌, List, [], ◌∷◌, length, arith, refl, sym, subst, Bool, false, true, ◌==◌, ◌&&◌, Option, Some, None, nat_lt, nat_le}
use Rattle.scan_layout.specs.declared.fault.LayoutFault.{LayoutFault}
use Rattle.scan_layout.specs.declared.fault.LayoutFault.TheVariants.{Deep, ChildDType, ChildCount, RowSum, ChildRows, Offsets}
use Rattle.scan_values.specs.declared.ptype.PType.{PType}
use Rattle.scan_values.specs.declared.ptype.Nullability.TheVariants.{NonNullable, Nullable}
use Rattle.scan_layout.specs.declared.node.LayoutKind.{LayoutKind}
use Rattle.scan_layout.specs.declared.node.LayoutKind.TheVariants.{Leaf, Struct, List as List'}
use Rattle.scan_values.specs.DataType.{DataType, bool_type, int_type, utf8_type, list_type, struct_type, depth_of}
use Rattle.scan_values.specs.Same.{same_type, same_type-Decides}
use Rattle.std.proofs.lemmas.Bool.{eqb-true, eq-eqb, ltb-true, lt-ltb, leb-true, le-leb}
use Rattle.scan_spelling.proofs.Fitting.{and_true}
use Rattle.scan_layout.specs.Layout.{Layout, Nodes, node, no_nodes, child, count, rows_of}
use Rattle.scan_layout.specs.Check.{fault_in, faults_in, first_fault, ◌then◌, unless, child_types, serves, offsets_fit, rows_fault, all_have_rows, total_rows, node_fault, shape_fault}
use Rattle.scan_layout.specs.Form.{HasForm, HaveForms, RowsFit, AllHaveRows, IsWellFormed}

pub then_none_parts : (a b : Option LayoutFault) → (a then b) ≡ None → (a ≡ None) × (b ≡ None)
then_none_parts None b e = (refl, e)
then_none_parts (Some f) b e = absurd cc

pub unless_none : (b : Bool) (f : LayoutFault) → unless b f ≡ None → b ≡ true
unless_none true f e = refl
unless_none false f e = absurd cc

pub all_have_rows-sound : (rows : ℕ) (ls : Nodes) → all_have_rows rows ls ≡ true → AllHaveRows rows ls
all_have_rows-sound rows no_nodes e = tt
all_have_rows-sound rows (child l ls) e =
    let both = and_true (rows_of l == rows) (all_have_rows rows ls) e in
    (eqb-true (rows_of l) rows both.0, all_have_rows-sound rows ls both.1)

pub all_have_rows-whole : (rows : ℕ) (ls : Nodes) → AllHaveRows rows ls → all_have_rows rows ls ≡ true
all_have_rows-whole rows no_nodes h = refl
all_have_rows-whole rows (child l ls) h = rw (eq-eqb (rows_of l) rows h.0, all_have_rows-whole rows ls h.1) refl

pub list_rows_fit : (p : PType) (rows : ℕ) (kids : Nodes) → count kids ≤ 3 → rows_fault (List' p) rows kids ≡ None → RowsFit (List' p) rows kids
list_rows_fit p rows no_nodes h e = tt
list_rows_fit p rows (child a no_nodes) h e = tt
list_rows_fit p rows (child a (child b no_nodes)) h e =
    let both = then_none_parts (unless (rows_of b == rows + 1) Offsets) (unless true ChildRows) e in
    (eqb-true (rows_of b) (rows + 1) (unless_none (rows_of b == rows + 1) Offsets both.0), tt)
list_rows_fit p rows (child a (child b (child v no_nodes))) h e =
    let both = then_none_parts (unless (rows_of b == rows + 1) Offsets) (unless (rows_of v == rows) ChildRows) e in
    (eqb-true (rows_of b) (rows + 1) (unless_none (rows_of b == rows + 1) Offsets both.0), (eqb-true (rows_of v) rows (unless_none (rows_of v == rows) ChildRows both.1), tt))
list_rows_fit p rows (child a (child b (child v (child w ls)))) h e = absurd (omega arith)

pub child_types_most : (t : DataType) (p : PType) → length (child_types t (List' p)) ≤ 3
child_types_most (bool_type n) p = omega arith
child_types_most (int_type q n) p = omega arith
child_types_most (utf8_type n) p = omega arith
child_types_most (list_type t NonNullable) p = omega arith
child_types_most (list_type t Nullable) p = omega arith
child_types_most (struct_type fs n) p = omega arith

pub rows_fit : (t : DataType) (kind : LayoutKind) (rows : ℕ) (kids : Nodes) → count kids ≡ length (child_types t kind) → rows_fault kind rows kids ≡ None → RowsFit kind rows kids
rows_fit t (Leaf segments spelling) rows kids h e =
    let both = then_none_parts (unless (nat_lt (total_rows segments) (2 ^ 64)) RowSum) (unless (total_rows segments == rows) ChildRows) e in
    let same : total_rows segments ≡ rows = eqb-true (total_rows segments) rows (unless_none (total_rows segments == rows) ChildRows both.1) in
    let below : total_rows segments < 2 ^ 64 = ltb-true (total_rows segments) (2 ^ 64) (unless_none (nat_lt (total_rows segments) (2 ^ 64)) RowSum both.0) in
    (same, omega arith)
rows_fit t Struct rows kids h e = all_have_rows-sound rows kids (unless_none (all_have_rows rows kids) ChildRows e)
rows_fit t (List' p) rows kids h e = list_rows_fit p rows kids (omega (arith, child_types_most t p)) e

mutual
  pub form_of : (l : Layout) (wanted : DataType) → fault_in l wanted ≡ None → HasForm l wanted
  form_of (node t rows kind kids) wanted e =
      let here = then_none_parts (node_fault (node t rows kind kids) wanted) (faults_in kids (child_types wanted kind)) e in
      let same : t ≡ wanted = (same_type-Decides t wanted).0 (unless_none (same_type t wanted) ChildDType (then_none_parts (unless (same_type t wanted) ChildDType) (shape_fault (node t rows kind kids)) here.0).0) in
      let shape = (then_none_parts (unless (same_type t wanted) ChildDType) (shape_fault (node t rows kind kids)) here.0).1 in
      let typed = then_none_parts (unless (serves kind t && offsets_fit kind kids) ChildDType) (unless (count kids == length (child_types t kind)) ChildCount then rows_fault kind rows kids) shape in
      let counted = then_none_parts (unless (count kids == length (child_types t kind)) ChildCount) (rows_fault kind rows kids) typed.1 in
      let serving = and_true (serves kind t) (offsets_fit kind kids) (unless_none (serves kind t && offsets_fit kind kids) ChildDType typed.0) in
      let many : count kids ≡ length (child_types t kind) = eqb-true (count kids) (length (child_types t kind)) (unless_none (count kids == length (child_types t kind)) ChildCount counted.0) in
      let below : faults_in kids (child_types t kind) ≡ None = subst (λ u. faults_in kids (child_types u kind) ≡ None) (sym same) here.1 in
      (same, serving.0, rows_fit t kind rows kids many counted.1, forms_of kids (child_types t kind) many below)

  pub forms_of : (ls : Nodes) (ts : List DataType) → count ls ≡ length ts → faults_in ls ts ≡ None → HaveForms ls ts
  forms_of no_nodes [] h e = tt
  forms_of no_nodes (t ∷ ts) h e = absurd (omega arith)
  forms_of (child l ls) [] h e = absurd (omega arith)
  forms_of (child l ls) (t ∷ ts) h e =
      let both = then_none_parts (fault_in l t) (faults_in ls ts) e in
      (form_of l t both.0, forms_of ls ts (omega arith) both.1)

pub second_fits : (t : DataType) (p : PType) (kids : Nodes) → serves (List' p) t ≡ true → HaveForms kids (child_types t (List' p)) → offsets_fit (List' p) kids ≡ true
second_fits t p no_nodes s h = refl
second_fits t p (child a no_nodes) s h = refl
second_fits (list_type t n) p (child a (child (node u rows kind kids) ls)) s h = subst (λ w. same_type w (int_type p NonNullable) ≡ true) (sym h.1.0.0) ((same_type-Decides (int_type p NonNullable) (int_type p NonNullable)).1 refl)
second_fits (bool_type n) p (child a (child b ls)) s h = absurd cc
second_fits (int_type q n) p (child a (child b ls)) s h = absurd cc
second_fits (utf8_type n) p (child a (child b ls)) s h = absurd cc
second_fits (struct_type fs n) p (child a (child b ls)) s h = absurd cc

pub offsets_fit_where : (t : DataType) (kind : LayoutKind) (kids : Nodes) → serves kind t ≡ true → HaveForms kids (child_types t kind) → offsets_fit kind kids ≡ true
offsets_fit_where t (Leaf segments spelling) kids s h = refl
offsets_fit_where t Struct kids s h = refl
offsets_fit_where t (List' p) kids s h = second_fits t p kids s h

pub count_where : (ls : Nodes) (ts : List DataType) → HaveForms ls ts → count ls ≡ length ts
count_where no_nodes [] h = refl
count_where no_nodes (t ∷ ts) h = absurd h
count_where (child l ls) [] h = absurd h
count_where (child l ls) (t ∷ ts) h = omega (arith, count_where ls ts h.1)

pub rows_whole : (kind : LayoutKind) (rows : ℕ) (kids : Nodes) → RowsFit kind rows kids → rows_fault kind rows kids ≡ None
rows_whole (Leaf segments spelling) rows kids h =
    let below : total_rows segments < 2 ^ 64 = omega arith in
    rw (lt-ltb (total_rows segments) (2 ^ 64) below, eq-eqb (total_rows segments) rows h.0) refl
rows_whole Struct rows kids h = rw (all_have_rows-whole rows kids h) refl
rows_whole (List' p) rows no_nodes h = refl
rows_whole (List' p) rows (child a no_nodes) h = refl
rows_whole (List' p) rows (child a (child b no_nodes)) h = rw (eq-eqb (rows_of b) (rows + 1) h.0) refl
rows_whole (List' p) rows (child a (child b (child v ls))) h = rw (eq-eqb (rows_of b) (rows + 1) h.0, eq-eqb (rows_of v) rows h.1.0) refl

mutual
  pub faultless : (l : Layout) (wanted : DataType) → HasForm l wanted → fault_in l wanted ≡ None
  faultless (node t rows kind kids) wanted h =
      let typed : same_type t wanted ≡ true = (same_type-Decides t wanted).1 h.0 in
      let below : faults_in kids (child_types wanted kind) ≡ None = subst (λ u. faults_in kids (child_types u kind) ≡ None) h.0 (all_faultless kids (child_types t kind) h.3) in
      rw (typed, h.1, offsets_fit_where t kind kids h.1 h.3, eq-eqb (count kids) (length (child_types t kind)) (count_where kids (child_types t kind) h.3), rows_whole kind rows kids h.2) below

  pub all_faultless : (ls : Nodes) (ts : List DataType) → HaveForms ls ts → faults_in ls ts ≡ None
  all_faultless no_nodes [] h = refl
  all_faultless no_nodes (t ∷ ts) h = refl
  all_faultless (child l ls) [] h = absurd h
  all_faultless (child l ls) (t ∷ ts) h = rw (faultless l t h.0) (all_faultless ls ts h.1)

pub well_formed : (l : Layout) (t : DataType) → first_fault l t ≡ None → IsWellFormed l t
well_formed l t e =
    let both = then_none_parts (unless (nat_le (depth_of t) 64) Deep) (fault_in l t) e in
    (leb-true (depth_of t) 64 (unless_none (nat_le (depth_of t) 64) Deep both.0), form_of l t both.1)

pub no_fault : (l : Layout) (t : DataType) → IsWellFormed l t → first_fault l t ≡ None
no_fault l t h = rw (le-leb (depth_of t) 64 h.0) (faultless l t h.1)
