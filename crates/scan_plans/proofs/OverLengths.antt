-- Expressions over lists of which they read only how many elements they have.
use Rattle.std.proofs.Common.{◌≡◌, ℕ, zero, suc, ◌+◌, ◌-◌, Bool, true, false, ◌||◌, ◌&&◌, List, [], ◌∷◌, map, length, Option, Some, None, Result, Ok, Err, ℤ, pos, negsuc, refl, ap, ◌∙◌, sym}
use Rattle.std.specs.Prelude.{nat_le, if◌then◌else◌}
use Rattle.std.specs.List.{list_any}
use Rattle.scan_values.specs.Arrays.{ArrayData}
use Rattle.scan_values.specs.DataType.{DataType, nullability_of}
use Rattle.scan_values.specs.declared.ptype.Nullability.TheVariants.{Nullable}
use Rattle.scan_values.specs.Marked.{Marked, lost, null, gone, boolean, integer, text, list, struct, Markeds, listed}
use Rattle.scan_values.specs.Val.{Val, null_val, bool_val, int_val, text_val, list_val, struct_val, marked}
use Rattle.scan_segments.specs.Source.{Store}
use Rattle.scan_expr.specs.Expr.{Expr}
use Rattle.scan_expr.specs.Eval.{eval}
use Rattle.scan_expr.specs.Overflow.{overflows}
use Rattle.scan_layout.specs.RowValue.{values_from, elements_between, under}
use Rattle.scan_plans.specs.PlanTree.{PlanTree, evaluate, lengths, valid, by_lengths}
use Rattle.scan_plans.specs.Came.{Came, arrived}
use Rattle.scan_plans.specs.Formed.{AreLengths, IsByLengths}
use Rattle.scan_plans.specs.Meaning.{value_at, list_at, overflow_at, overflow_on, plan_dtype}
use Rattle.scan_plans.specs.OffsetsData.{offset_at, length_between}
use Rattle.scan_plans.specs.Reads.{AreValues, Reads}
use Rattle.scan_plans.specs.declared.fault.ReadFault.{ReadFault}
use Rattle.scan_plans.specs.declared.fault.ReadFault.TheVariants.{Corrupt, Overflow, NoMemory}
use Rattle.scan_plans.proofs.Parts.{any_or}

-- ---- what is read is known
not_gone : (x : Val) → marked x ≡ gone → ⊥
not_gone null_val h = absurd cc
not_gone (bool_val b) h = absurd cc
not_gone (int_val z) h = absurd cc
not_gone (text_val s) h = absurd cc
not_gone (list_val vs) h = absurd cc
not_gone (struct_val vs) h = absurd cc

not_lost : (x : Val) → marked x ≡ lost → ⊥
not_lost null_val h = absurd cc
not_lost (bool_val b) h = absurd cc
not_lost (int_val z) h = absurd cc
not_lost (text_val s) h = absurd cc
not_lost (list_val vs) h = absurd cc
not_lost (struct_val vs) h = absurd cc

values_long : (f : ℕ → Marked) (i n : ℕ) → length (listed (values_from f i n)) ≡ n
values_long f i zero = refl
values_long f i (suc n) = ap suc (values_long f (i + 1) n)

-- a length that is known is that of a list
abbrev Known : ℕ → Option ℤ → Option ℤ → Type 0
Known most a b = (ms : Markeds) × (length_between most a b ≡ integer (pos (length (listed ms)))) × (elements_between most a b (λ j. lost) ≡ list ms)

known : (most : ℕ) (a b : Option ℤ) (x : Val) → marked x ≡ length_between most a b → Known most a b
known most None b x h = absurd (not_gone x h)
known most (Some (negsuc n)) b x h = absurd (not_gone x h)
known most (Some (pos n)) None x h = absurd (not_gone x h)
known most (Some (pos n)) (Some (negsuc m)) x h = absurd (not_gone x h)
known most (Some (pos n)) (Some (pos m)) x h = by (nat_le n m && nat_le m most) h
  where
    by : (c : Bool) → marked x ≡ (if c then integer (pos (m - n)) else gone) → (ms : Markeds) × ((if c then integer (pos (m - n)) else gone) ≡ integer (pos (length (listed ms)))) × ((if c then list (values_from (λ j. lost) n (m - n)) else gone) ≡ list ms)
    by true e = (values_from (λ j. lost) n (m - n), ap (λ k. integer (pos k)) (sym (values_long (λ j. lost) n (m - n))), refl)
    by false e = absurd (not_gone x e)

module _ (d : DataType) (e : Expr) (t : DataType) (f : Expr) (h : IsByLengths d e t f) where
  -- over a length, and over a list of it
  abbrev Same : Marked → Marked → Type 0
  Same l s = (eval t f l 0 ≡ eval d e s 0) × (overflows t f l 0 ≡ overflows d e s 0)

  of_list : (ms : Markeds) (l s : Marked) → l ≡ integer (pos (length (listed ms))) → s ≡ list ms → Same l s
  of_list ms l s a b = (ap (λ v. eval t f v 0) a ∙ h.value ms ∙ ap (λ v. eval d e v 0) (sym b), ap (λ v. overflows t f v 0) a ∙ h.overflow ms ∙ ap (λ v. overflows d e v 0) (sym b))

  under_valid : (w l s : Marked) (x : Val) → nullability_of t ≡ Nullable → (marked x ≡ l → Same l s) → marked x ≡ under w l → Same (under w l) (under w s)
  under_valid (boolean true) l s x n k m = k m
  under_valid (boolean false) l s x n k m = (h.null_value n, h.null_overflow n)
  under_valid lost l s x n k m = absurd (not_lost x m)
  under_valid null l s x n k m = absurd (not_lost x m)
  under_valid gone l s x n k m = absurd (not_lost x m)
  under_valid (integer z) l s x n k m = absurd (not_lost x m)
  under_valid (text z) l s x n k m = absurd (not_lost x m)
  under_valid (list z) l s x n k m = absurd (not_lost x m)
  under_valid (struct z) l s x n k m = absurd (not_lost x m)

  row_same : (p : PlanTree) (store : Store) (i : ℕ) (x : Val) → AreLengths p → plan_dtype p ≡ t → marked x ≡ value_at p store i → Same (value_at p store i) (list_at p store i)
  row_same (lengths o) store i x a g m = let k = known o.elements (offset_at o store i) (offset_at o store (i + 1)) x m in of_list k.0 (value_at (lengths o) store i) (list_at (lengths o) store i) k.1 k.2
  row_same (valid (lengths o) v) store i x a g m =
      let null_there : nullability_of t ≡ Nullable = ap nullability_of (sym g) in
      under_valid (value_at v store i) (value_at (lengths o) store i) (list_at (lengths o) store i) x null_there
      (λ y. let k = known o.elements (offset_at o store i) (offset_at o store (i + 1)) x y in of_list k.0 (value_at (lengths o) store i) (list_at (lengths o) store i) k.1 k.2) m
  row_same _ store i x a g m = absurd a

  rows_same : (p : PlanTree) (store : Store) (vs : List Val) (is : List ℕ) → AreLengths p → plan_dtype p ≡ t → map marked vs ≡ map (value_at p store) is
      → (map (λ i. eval t f (value_at p store i) 0) is ≡ map (λ i. eval d e (list_at p store i) 0) is) × (list_any (λ i. overflows t f (value_at p store i) 0) is ≡ list_any (λ i. overflows d e (list_at p store i) 0) is)
  rows_same p store [] [] a g m = (refl, refl)
  rows_same p store (x ∷ vs) [] a g m = absurd cc
  rows_same p store [] (i ∷ is) a g m = absurd cc
  rows_same p store (x ∷ vs) (i ∷ is) a g m =
      let first : marked x ≡ value_at p store i = cc in
      let later : map marked vs ≡ map (value_at p store) is = cc in
      let here = row_same p store i x a g first in
      let rest = rows_same p store vs is a g later in
      (rw (here.0, rest.0) refl, rw (here.1, rest.1) refl)

  overflow_same : (p : PlanTree) (here : Came) (is : List ℕ) (a : ArrayData) → AreLengths p → plan_dtype p ≡ t → AreValues p here is a → overflow_on (by_lengths d e t f p) (arrived here) is ≡ overflow_on (evaluate t f p) (arrived here) is
  overflow_same p here is a l g v =
      any_or (overflow_at p (arrived here)) (λ i. overflows d e (list_at p (arrived here) i) 0) is
      ∙ ap (λ b. overflow_on p (arrived here) is || b) (sym (rows_same p (arrived here) a.items is l g v.items).1)
      ∙ sym (any_or (overflow_at p (arrived here)) (λ i. overflows t f (value_at p (arrived here) i) 0) is)

  -- what the expression over the lengths gives is what the one over the lists gives
  pub by_lengths_reads : (p : PlanTree) (here : Came) (is : List ℕ) (a : ArrayData) (r : Result ArrayData ReadFault) → AreLengths p → plan_dtype p ≡ t → AreValues p here is a → Reads (evaluate t f p) here is r → Reads (by_lengths d e t f p) here is r
  by_lengths_reads p here is a (Ok b) l g v w = record {
    dtype = w.dtype ∙ h.dtype;
    items = w.items ∙ (rows_same p (arrived here) a.items is l g v.items).0;
    within = overflow_same p here is a l g v ∙ w.within;
    found = w.found;
  }
  by_lengths_reads p here is a (Err (Corrupt id)) l g v w = w
  by_lengths_reads p here is a (Err Overflow) l g v w = overflow_same p here is a l g v ∙ w
  by_lengths_reads p here is a (Err NoMemory) l g v w = tt

pub by_lengths_passes : (d : DataType) (e : Expr) (t : DataType) (f : Expr) (p : PlanTree) (here : Came) (is : List ℕ) (z : ReadFault) → Reads p here is (Err z) → Reads (by_lengths d e t f p) here is (Err z)
by_lengths_passes d e t f p here is (Corrupt id) h = h
by_lengths_passes d e t f p here is Overflow h = any_or (overflow_at p (arrived here)) (λ i. overflows d e (list_at p (arrived here) i) 0) is ∙ rw h refl
by_lengths_passes d e t f p here is NoMemory h = tt
