-- The values of plans over a list's children are those of the list's rows.
use Rattle.std.proofs.Common.{◌≡◌, ℕ, zero, suc, ◌+◌, ◌-◌, ◌<◌, Bool, true, false, ◌&&◌, List, length, Option, Some, None, ℤ, pos, negsuc, refl, ap, sym, subst, ◌∙◌, arith}
use Rattle.std.specs.Prelude.{if◌then◌else◌, nat_le}
use Rattle.scan_values.specs.DataType.{DataType, bool_type, list_type}
use Rattle.scan_values.specs.declared.ptype.Nullability.{Nullability}
use Rattle.scan_values.specs.declared.ptype.Nullability.TheVariants.{NonNullable, Nullable}
use Rattle.scan_values.specs.declared.ptype.PType.{PType}
use Rattle.scan_values.specs.Marked.{Marked, lost, null, gone, boolean, integer, text, list, struct, Markeds, listed}
use Rattle.scan_segments.specs.Source.{Store}
use Rattle.scan_expr.specs.Bound.{Bound}
use Rattle.scan_expr.specs.Eval.{eval}
use Rattle.scan_expr.specs.Overflow.{overflows}
use Rattle.scan_layout.specs.declared.node.LayoutKind.TheVariants.{Leaf, Struct, List as List'}
use Rattle.scan_spelling.specs.declared.spelling.Spelling.{Spelling}
use Rattle.scan_layout.specs.Check.{serves, validity_types}
use Rattle.scan_layout.specs.Form.{HaveForms}
use Rattle.scan_layout.specs.Layout.{Layout, Nodes, node, no_nodes, child, rows_of}
use Rattle.scan_layout.specs.RowValue.{row_value, nth_value, values_from, elements_between, under, where_valid}
use Rattle.scan_partition.specs.Stepped.{IsOverLengths}
use Rattle.scan_plans.specs.Meaning.{value_at, list_at, overflow_at}
use Rattle.scan_plans.specs.OffsetsData.{offset_at}
use Rattle.scan_plans.specs.PlanTree.{PlanTree, lists, lengths}
use Rattle.scan_plans.proofs.Spans.{elements_alike}
use Rattle.scan_readers.specs.ListPlans.{list_layout, list_offsets, list_validity, valid_under, over_lists}

-- ---- the validity

-- a value under the validity of a row
pub under_row : (n : Nullability) (others : Nodes) (p : PlanTree) (store : Store) (i : ℕ) (w x : Marked) → HaveForms others (validity_types n) → w ≡ nth_value others 0 store i → value_at p store i ≡ x → value_at (valid_under p (list_validity n others)) store i ≡ where_valid n w x
under_row NonNullable others p store i w x forms e h = h
under_row Nullable no_nodes p store i w x forms e h = absurd forms
under_row Nullable (child (node t rows (Leaf gs sp) kids) ls) p store i w x forms e h = λ k. under (sym e k) (h k)
under_row Nullable (child (node t rows Struct kids) ls) p store i w x forms e h = absurd (let z : serves Struct (bool_type NonNullable) ≡ true = subst (λ (d : DataType). serves Struct d ≡ true) (forms.0).0 (forms.0).1 in cc)
under_row Nullable (child (node t rows (List' q) kids) ls) p store i w x forms e h = absurd (let z : serves (List' q) (bool_type NonNullable) ≡ true = subst (λ (d : DataType). serves (List' q) d ≡ true) (forms.0).0 (forms.0).1 in cc)

-- the list of which only the length is known, under the same
pub under_list : (n : Nullability) (others : Nodes) (p : PlanTree) (store : Store) (i : ℕ) (w x : Marked) → HaveForms others (validity_types n) → w ≡ nth_value others 0 store i → list_at p store i ≡ x → list_at (valid_under p (list_validity n others)) store i ≡ where_valid n w x
under_list NonNullable others p store i w x forms e h = h
under_list Nullable no_nodes p store i w x forms e h = absurd forms
under_list Nullable (child (node t rows (Leaf gs sp) kids) ls) p store i w x forms e h = λ k. under (sym e k) (h k)
under_list Nullable (child (node t rows Struct kids) ls) p store i w x forms e h = absurd (let z : serves Struct (bool_type NonNullable) ≡ true = subst (λ (d : DataType). serves Struct d ≡ true) (forms.0).0 (forms.0).1 in cc)
under_list Nullable (child (node t rows (List' q) kids) ls) p store i w x forms e h = absurd (let z : serves (List' q) (bool_type NonNullable) ≡ true = subst (λ (d : DataType). serves (List' q) d ≡ true) (forms.0).0 (forms.0).1 in cc)

-- nothing overflows under it where nothing does
pub under_calm : (n : Nullability) (others : Nodes) (p : PlanTree) (store : Store) (i : ℕ) → overflow_at p store i ≡ false → overflow_at (valid_under p (list_validity n others)) store i ≡ false
under_calm NonNullable others p store i h = h
under_calm Nullable no_nodes p store i h = h
under_calm Nullable (child (node t rows (Leaf gs sp) kids) ls) p store i h = h
under_calm Nullable (child (node t rows Struct kids) ls) p store i h = h
under_calm Nullable (child (node t rows (List' q) kids) ls) p store i h = h

-- ---- lists and their elements
module _ (t : DataType) (n : Nullability) (rows : ℕ) (q : PType) (el : Layout) (sp : Spelling) (gs : List (ℕ × ℕ)) (others : Nodes) (forms : HaveForms others (validity_types n)) where
  lists_row : (p : PlanTree) (d : DataType) (store : Store) (i : ℕ) → ((j : ℕ) → j < rows_of el → value_at p store j ≡ row_value el store j)
      → value_at (valid_under (lists d p (list_offsets q el sp gs)) (list_validity n others)) store i ≡ row_value (list_layout t n rows q el sp gs others) store i
  lists_row p d store i h =
      let o = list_offsets q el sp gs in
      under_row n others (lists d p o) store i (nth_value others 0 store i) (elements_between (rows_of el) (offset_at o store i) (offset_at o store (i + 1)) (λ j. row_value el store j)) forms refl
      (elements_alike (rows_of el) (offset_at o store i) (offset_at o store (i + 1)) (λ j. value_at p store j) (λ j. row_value el store j) (λ a b j x y m low high. h j (omega (arith, m, high))))

  pub over_lists_value : (e : Bound) (p : PlanTree) (store : Store) (i : ℕ) → ((j : ℕ) → j < rows_of el → value_at p store j ≡ row_value el store j)
      → value_at (over_lists e t p (list_offsets q el sp gs) (list_validity n others)) store i ≡ eval e.scope e.expr (row_value (list_layout t n rows q el sp gs others) store i) 0
  over_lists_value e p store i h = ap (λ v. eval e.scope e.expr v 0) (lists_row p (list_type t NonNullable) store i h)

  pub over_lists_overflow : (e : Bound) (p : PlanTree) (store : Store) (i : ℕ) → ((j : ℕ) → j < rows_of el → value_at p store j ≡ row_value el store j)
      → overflow_at (over_lists e t p (list_offsets q el sp gs) (list_validity n others)) store i ≡ overflows e.scope e.expr (row_value (list_layout t n rows q el sp gs others) store i) 0
  over_lists_overflow e p store i h =
      let calm = under_calm n others (lists (list_type t NonNullable) p (list_offsets q el sp gs)) store i refl in
      rw calm (ap (λ v. overflows e.scope e.expr v 0) (lists_row p (list_type t NonNullable) store i h))

values_long : (f : ℕ → Marked) (i n : ℕ) → length (listed (values_from f i n)) ≡ n
values_long f i zero = refl
values_long f i (suc n) = ap suc (values_long f (i + 1) n)

-- ---- expressions that read only lengths
module _ (e f : Bound) (t : DataType) (n : Nullability) (scope : e.scope ≡ list_type t n) (h : IsOverLengths e f) where
  -- lists of as many elements
  alike : (ms ns : Markeds) → length (listed ms) ≡ length (listed ns) → (eval e.scope e.expr (list ms) 0 ≡ eval e.scope e.expr (list ns) 0) × (overflows e.scope e.expr (list ms) 0 ≡ overflows e.scope e.expr (list ns) 0)
  alike ms ns same = (
    sym (h.values (list ms) 0 (tt {0})) ∙ ap (λ k. eval f.scope f.expr (integer (pos k)) 0) same ∙ h.values (list ns) 0 (tt {0}),
    sym (h.overflow (list ms) 0 (tt {0})) ∙ ap (λ k. overflows f.scope f.expr (integer (pos k)) 0) same ∙ h.overflow (list ns) 0 (tt {0}),
  )

  abbrev pub Same : Marked → Marked → Type 0
  Same v w = (eval e.scope e.expr v 0 ≡ eval e.scope e.expr w 0) × (overflows e.scope e.expr v 0 ≡ overflows e.scope e.expr w 0)

  between_alike : (most : ℕ) (a b : Option ℤ) (x y : ℕ → Marked) → Same (elements_between most a b x) (elements_between most a b y)
  between_alike most None b x y = (refl, refl)
  between_alike most (Some (negsuc k)) b x y = (refl, refl)
  between_alike most (Some (pos k)) None x y = (refl, refl)
  between_alike most (Some (pos k)) (Some (negsuc m)) x y = (refl, refl)
  between_alike most (Some (pos k)) (Some (pos m)) x y = by (nat_le k m && nat_le m most)
    where
      by : (c : Bool) → Same (if c then list (values_from x k (m - k)) else gone) (if c then list (values_from y k (m - k)) else gone)
      by true = alike (values_from x k (m - k)) (values_from y k (m - k)) (values_long x k (m - k) ∙ sym (values_long y k (m - k)))
      by false = (refl, refl)

  valid_alike : (m : Nullability) (w v u : Marked) → Same v u → Same (where_valid m w v) (where_valid m w u)
  valid_alike NonNullable w v u s = s
  valid_alike Nullable (boolean true) v u s = s
  valid_alike Nullable (boolean false) v u s = (refl, refl)
  valid_alike Nullable lost v u s = (refl, refl)
  valid_alike Nullable null v u s = (refl, refl)
  valid_alike Nullable gone v u s = (refl, refl)
  valid_alike Nullable (integer z) v u s = (refl, refl)
  valid_alike Nullable (text z) v u s = (refl, refl)
  valid_alike Nullable (list z) v u s = (refl, refl)
  valid_alike Nullable (struct z) v u s = (refl, refl)

  pub by_lengths_row : (rows : ℕ) (q : PType) (el : Layout) (sp : Spelling) (gs : List (ℕ × ℕ)) (others : Nodes) (store : Store) (i : ℕ) → HaveForms others (validity_types n)
      → Same (list_at (valid_under (lengths (list_offsets q el sp gs)) (list_validity n others)) store i) (row_value (list_layout t n rows q el sp gs others) store i)
  by_lengths_row rows q el sp gs others store i forms =
      let o = list_offsets q el sp gs in
      let w = nth_value others 0 store i in
      let x = elements_between (rows_of el) (offset_at o store i) (offset_at o store (i + 1)) (λ j. lost) in
      let y = elements_between (rows_of el) (offset_at o store i) (offset_at o store (i + 1)) (λ j. row_value el store j) in
      let same = under_list n others (lengths o) store i w x forms refl refl in
      let s = valid_alike n w x y (between_alike (rows_of el) (offset_at o store i) (offset_at o store (i + 1)) (λ j. lost) (λ j. row_value el store j)) in
      (ap (λ v. eval e.scope e.expr v 0) same ∙ s.0, ap (λ v. overflows e.scope e.expr v 0) same ∙ s.1)
