-- What a layout touches stands at leaves of its dtype, and a range touches what a part of it touches.
use Rattle.std.proofs.Common.{◌≡◌, ℕ, ◌+◌, Bool, true, false, ◌||◌, ◌&&◌, List, [], ◌∷◌, ◌++◌, max, min, refl, subst}
use Rattle.std.specs.Prelude.{nat_lt, if◌then◌else◌, bytes_eq}
use Rattle.scan_values.specs.declared.ptype.Nullability.{Nullability}
use Rattle.scan_values.specs.declared.ptype.Nullability.TheVariants.{NonNullable, Nullable}
use Rattle.scan_values.specs.declared.ptype.PType.{PType}
use Rattle.scan_values.specs.DataType.{DataType, Fields, no_fields, field, field_list, bool_type, int_type, utf8_type, list_type, struct_type}
use Rattle.scan_values.specs.FieldLists.{dtypes_of as field_types}
use Rattle.scan_values.specs.Kinds.{is_scalar_type}
use Rattle.scan_values.specs.Paths.{Path, Step, to_field, to_validity, to_offsets, to_elements}
use Rattle.scan_segments.specs.Source.{Store}
use Rattle.scan_expr.specs.Needs.{is_leaf, is_field_leaf, is_validity, under_field}
use Rattle.scan_layout.specs.declared.node.LayoutKind.TheVariants.{Leaf, Struct, List as List'}
use Rattle.scan_spelling.specs.declared.spelling.Spelling.{Spelling}
use Rattle.scan_layout.specs.Check.{serves, validity_types}
use Rattle.scan_layout.specs.Form.{HasForm, HaveForms}
use Rattle.scan_layout.specs.Laws.{Each}
use Rattle.scan_layout.specs.Layout.{Layout, Nodes, node, no_nodes, child, rows_of}
use Rattle.scan_spelling.specs.Places.{Place, place_of, places_of}
use Rattle.scan_layout.specs.RowValue.{row_value}
use Rattle.scan_layout.specs.Touched.{touched, below_step, nth_touched, all_touched, leaf_touched, under_step, field_steps, element_from, element_to}
use Rattle.scan_layout.proofs.Local.{agree_both}
use Rattle.scan_partition.proofs.Names.{bytes_eq-refl}

-- ---- facts of each place
or_left : (a b : Bool) → a ≡ true → (a || b) ≡ true
or_left true b h = refl
or_left false b h = absurd cc

or_right : (a b : Bool) → b ≡ true → (a || b) ≡ true
or_right true b h = refl
or_right false b h = h

and_true : (a b : Bool) → a ≡ true → b ≡ true → (a && b) ≡ true
and_true true b h k = k
and_true false b h k = absurd cc

pub each_less : (P Q : Place → Type 0) (ps : List Place) → ((p : Place) → P p → Q p) → Each P ps → Each Q ps
each_less P Q [] f h = tt
each_less P Q (p ∷ ps) f h = (f p h.0, each_less P Q ps f h.1)

pub each_under : (P Q : Place → Type 0) (step : Step) (ps : List Place) → ((p : Place) → P p → Q (below_step step p)) → Each P ps → Each Q (under_step step ps)
each_under P Q step [] f h = tt
each_under P Q step (p ∷ ps) f h = (f p h.0, each_under P Q step ps f h.1)

each_if : (P : Place → Type 0) (b : Bool) (ps : List Place) → Each P ps → Each P (if b then ps else [])
each_if P true ps h = h
each_if P false ps h = tt

-- ---- paths
abbrev pub IsAtLeaf : DataType → Place → Type 0
IsAtLeaf t p = is_leaf t p.path ≡ true

scalar_leaf : (t : DataType) → is_scalar_type t ≡ true → is_leaf t [] ≡ true
scalar_leaf (bool_type n) h = refl
scalar_leaf (int_type p n) h = refl
scalar_leaf (utf8_type n) h = refl
scalar_leaf (list_type t n) h = absurd cc
scalar_leaf (struct_type fs n) h = absurd cc

pub leaf_paths : (t : DataType) (sp : Spelling) (gs : List (ℕ × ℕ)) (base a b : ℕ) → is_leaf t [] ≡ true → Each (IsAtLeaf t) (leaf_touched base (places_of t sp gs) a b)
leaf_paths t sp [] base a b h = tt
leaf_paths t sp (g ∷ gs) base a b h =
    agree_both (IsAtLeaf t) (if nat_lt (max base a) (min (base + g.1) b) then place_of t sp g ∷ [] else []) (leaf_touched (base + g.1) (places_of t sp gs) a b)
    (each_if (IsAtLeaf t) (nat_lt (max base a) (min (base + g.1) b)) (place_of t sp g ∷ []) (h, tt)) (leaf_paths t sp gs (base + g.1) a b h)

-- below a list
offsets_leaf : (t : DataType) (n : Nullability) (q : PType) (p : Path) → is_leaf (int_type q NonNullable) p ≡ true → is_leaf (list_type t n) (to_offsets ∷ p) ≡ true
offsets_leaf t NonNullable q p h = or_left (is_leaf (int_type q NonNullable) p) false h
offsets_leaf t Nullable q p h = or_left (is_leaf (int_type q NonNullable) p) false h

elements_leaf : (t : DataType) (n : Nullability) (p : Path) → is_leaf t p ≡ true → is_leaf (list_type t n) (to_elements ∷ p) ≡ true
elements_leaf t NonNullable p h = h
elements_leaf t Nullable p h = h

validity_leaf : (t : DataType) (p : Path) → is_leaf (bool_type NonNullable) p ≡ true → is_leaf (list_type t Nullable) (to_validity ∷ p) ≡ true
validity_leaf t p h = or_left (is_leaf (bool_type NonNullable) p) false h

mutual
  pub paths : (l : Layout) (ty : DataType) (s : Store) (a b : ℕ) → HasForm l ty → Each (IsAtLeaf ty) (touched l s a b)
  paths (node u rows (Leaf gs sp) kids) ty s a b form = subst (λ (t : DataType). Each (IsAtLeaf t) (leaf_touched 0 (places_of u sp gs) a b)) form.0 (leaf_paths u sp gs 0 a b (scalar_leaf u form.1))
  paths (node (struct_type fs NonNullable) rows Struct kids) ty s a b form =
      subst (λ (t : DataType). Each (IsAtLeaf t) (if nat_lt a b then all_touched kids (field_steps fs) s a b else [])) form.0
      (each_if (IsAtLeaf (struct_type fs NonNullable)) (nat_lt a b) (all_touched kids (field_steps fs) s a b) (field_paths fs kids s a b form.3))
  paths (node (struct_type fs Nullable) rows Struct no_nodes) ty s a b form = absurd form.3
  paths (node (struct_type fs Nullable) rows Struct (child v ls)) ty s a b form =
      subst (λ (t : DataType). Each (IsAtLeaf t) (if nat_lt a b then under_step to_validity (touched v s a b) ++ all_touched ls (field_steps fs) s a b else [])) form.0
      (each_if (IsAtLeaf (struct_type fs Nullable)) (nat_lt a b) (under_step to_validity (touched v s a b) ++ all_touched ls (field_steps fs) s a b)
      (agree_both (IsAtLeaf (struct_type fs Nullable)) (under_step to_validity (touched v s a b)) (all_touched ls (field_steps fs) s a b)
      (each_under (IsAtLeaf (bool_type NonNullable)) (IsAtLeaf (struct_type fs Nullable)) to_validity (touched v s a b) (λ p h. or_left (is_leaf (bool_type NonNullable) p.path) (is_field_leaf fs (to_validity ∷ p.path)) h) (paths v (bool_type NonNullable) s a b form.3.0))
      (each_less (λ p. is_field_leaf fs p.path ≡ true) (IsAtLeaf (struct_type fs Nullable)) (all_touched ls (field_steps fs) s a b) (λ p h. or_right (is_validity p.path) (is_field_leaf fs p.path) h) (field_paths fs ls s a b form.3.1))))
  paths (node (bool_type n) rows Struct kids) ty s a b form = absurd (let z : serves Struct (bool_type n) ≡ true = form.1 in cc)
  paths (node (int_type p n) rows Struct kids) ty s a b form = absurd (let z : serves Struct (int_type p n) ≡ true = form.1 in cc)
  paths (node (utf8_type n) rows Struct kids) ty s a b form = absurd (let z : serves Struct (utf8_type n) ≡ true = form.1 in cc)
  paths (node (list_type t n) rows Struct kids) ty s a b form = absurd (let z : serves Struct (list_type t n) ≡ true = form.1 in cc)
  paths (node (list_type t n) rows (List' q) no_nodes) ty s a b form = absurd form.3
  paths (node (list_type t n) rows (List' q) (child el no_nodes)) ty s a b form = absurd form.3.1
  paths (node (list_type t n) rows (List' q) (child el (child o others))) ty s a b form =
      let A = nth_touched others 0 s a b in
      let B = touched o s a (b + 1) in
      let x = element_from (rows_of el) rows (λ i. row_value o s i) a b in
      let y = element_to (rows_of el) rows (λ i. row_value o s i) a b in
      let C = touched el s x y in
      subst (λ (w : DataType). Each (IsAtLeaf w) (if nat_lt a b then under_step to_validity A ++ (under_step to_offsets B ++ under_step to_elements C) else [])) form.0
      (each_if (IsAtLeaf (list_type t n)) (nat_lt a b) (under_step to_validity A ++ (under_step to_offsets B ++ under_step to_elements C))
      (agree_both (IsAtLeaf (list_type t n)) (under_step to_validity A) (under_step to_offsets B ++ under_step to_elements C)
      (others_paths t n q others s a b form.3.1.1)
      (agree_both (IsAtLeaf (list_type t n)) (under_step to_offsets B) (under_step to_elements C)
      (each_under (IsAtLeaf (int_type q NonNullable)) (IsAtLeaf (list_type t n)) to_offsets B (λ p h. offsets_leaf t n q p.path h) (paths o (int_type q NonNullable) s a (b + 1) form.3.1.0))
      (each_under (IsAtLeaf t) (IsAtLeaf (list_type t n)) to_elements C (λ p h. elements_leaf t n p.path h) (paths el t s x y form.3.0)))))
  paths (node (bool_type n) rows (List' q) kids) ty s a b form = absurd (let z : serves (List' q) (bool_type n) ≡ true = form.1 in cc)
  paths (node (int_type p n) rows (List' q) kids) ty s a b form = absurd (let z : serves (List' q) (int_type p n) ≡ true = form.1 in cc)
  paths (node (utf8_type n) rows (List' q) kids) ty s a b form = absurd (let z : serves (List' q) (utf8_type n) ≡ true = form.1 in cc)
  paths (node (struct_type fs n) rows (List' q) kids) ty s a b form = absurd (let z : serves (List' q) (struct_type fs n) ≡ true = form.1 in cc)

  others_paths : (t : DataType) (n : Nullability) (q : PType) (others : Nodes) (s : Store) (a b : ℕ) → HaveForms others (validity_types n) → Each (IsAtLeaf (list_type t n)) (under_step to_validity (nth_touched others 0 s a b))
  others_paths t NonNullable q no_nodes s a b forms = tt
  others_paths t NonNullable q (child v ls) s a b forms = absurd forms
  others_paths t Nullable q no_nodes s a b forms = absurd forms
  others_paths t Nullable q (child v ls) s a b forms =
      each_under (IsAtLeaf (bool_type NonNullable)) (IsAtLeaf (list_type t Nullable)) to_validity (touched v s a b) (λ p h. validity_leaf t p.path h) (paths v (bool_type NonNullable) s a b forms.0)

  field_paths : (fs : Fields) (kids : Nodes) (s : Store) (a b : ℕ) → HaveForms kids (field_types (field_list fs)) → Each (λ p. is_field_leaf fs p.path ≡ true) (all_touched kids (field_steps fs) s a b)
  field_paths no_fields no_nodes s a b forms = tt
  field_paths no_fields (child l ls) s a b forms = absurd forms
  field_paths (field f d fs) no_nodes s a b forms = absurd forms
  field_paths (field f d fs) (child l ls) s a b forms =
      agree_both (λ p. is_field_leaf (field f d fs) p.path ≡ true) (under_step (to_field f) (touched l s a b)) (all_touched ls (field_steps fs) s a b)
      (each_under (IsAtLeaf d) (λ p. is_field_leaf (field f d fs) p.path ≡ true) (to_field f) (touched l s a b)
      (λ p h. or_left (under_field f (is_leaf d) (to_field f ∷ p.path)) (is_field_leaf fs (to_field f ∷ p.path)) (and_true (bytes_eq f f) (is_leaf d p.path) (bytes_eq-refl f) h)) (paths l d s a b forms.0))
      (each_less (λ p. is_field_leaf fs p.path ≡ true) (λ p. is_field_leaf (field f d fs) p.path ≡ true) (all_touched ls (field_steps fs) s a b)
      (λ p h. or_right (under_field f (is_leaf d) p.path) (is_field_leaf fs p.path) h) (field_paths fs ls s a b forms.1))
