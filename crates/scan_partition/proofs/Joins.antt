-- Arrays that hold the values of parts, joined.
use Rattle.std.proofs.Common.{◌≡◌, ℕ, ◌+◌, ◌<◌, zero, suc, List, [], ◌∷◌, length, map, zip, get_or, refl, ap, sym, ◌∙◌, arith}
use Rattle.std.specs.List.{range_with_len}
use Rattle.std.proofs.lemmas.List.{length-map}
use Rattle.std.proofs.lemmas.List.FromFn.{get_or-map-range_with_len}
use Rattle.scan_values.specs.DataType.{DataType, struct_type, fields_of}
use Rattle.scan_values.specs.declared.ptype.Nullability.TheVariants.{NonNullable}
use Rattle.scan_values.specs.Arrays.{ArrayData}
use Rattle.scan_values.specs.Marked.{Marked, null, struct, more}
use Rattle.scan_values.specs.Val.{Val, null_val, vals_of, marked, marked_all}
use Rattle.scan_expr.specs.Bound.{Bound}
use Rattle.scan_expr.specs.Infer.{infer}
use Rattle.scan_expr.specs.Eval.{eval}
use Rattle.scan_partition.specs.declared.item.Item.{Item}
use Rattle.scan_partition.specs.Items.{item_name}
use Rattle.scan_partition.specs.Divided.{Divided, IsDivided}
use Rattle.scan_partition.specs.Split.{part_values, joined_value_of}
use Rattle.scan_partition.specs.Joining.{AreAsLong, IsScopeOf, AreOfParts, joined_at, HoldParts, JoinsParts, JoinsWhole}

-- ---- the arrays are what the root reads
pub as_long : (n : ℕ) (ps : List Bound) (xs : List ArrayData) → AreOfParts n ps xs → AreAsLong n xs
as_long n [] [] h = tt
as_long n [] (x ∷ xs) h = absurd h
as_long n (p ∷ ps) [] h = absurd h
as_long n (p ∷ ps) (x ∷ xs) h = (h.0.1, as_long n ps xs h.1)

of_types : (n : ℕ) (ps : List Bound) (xs : List ArrayData) → AreOfParts n ps xs → map (λ (p : Bound). infer p.scope p.expr) ps ≡ map (λ (a : ArrayData). a.dtype) xs
of_types n [] [] h = refl
of_types n [] (x ∷ xs) h = absurd h
of_types n (p ∷ ps) [] h = absurd h
of_types n (p ∷ ps) (x ∷ xs) h = λ i. sym h.0.0 i ∷ of_types n ps xs h.1 i

as_many : (n : ℕ) (ps : List Bound) (xs : List ArrayData) → AreOfParts n ps xs → length ps ≡ length xs
as_many n [] [] h = refl
as_many n [] (x ∷ xs) h = absurd h
as_many n (p ∷ ps) [] h = absurd h
as_many n (p ∷ ps) (x ∷ xs) h = ap suc (as_many n ps xs h.1)

pub is_scope : (n : ℕ) (is : List Item) (ps : List Bound) (root : Bound) (xs : List ArrayData) → IsDivided is ps root → AreOfParts n ps xs → IsScopeOf xs root.scope
is_scope n is ps root xs d h = (
  map item_name is,
  length-map is item_name ∙ sym d.even ∙ as_many n ps xs h,
  d.scope ∙ ap (λ (ts : List DataType). struct_type (fields_of (zip (map item_name is) ts)) NonNullable) (of_types n ps xs h),
)

-- ---- a row of what the arrays hold
marked_at : (vs : List Val) (r : ℕ) → marked (get_or vs r null_val) ≡ get_or (map marked vs) r null
marked_at [] r = refl
marked_at (v ∷ vs) zero = refl
marked_at (v ∷ vs) (suc r) = marked_at vs r

module _ (n : ℕ) (w : ℕ → Item → Marked) (r : ℕ) (l : r < n) where
  part_at : (vs : List Val) (f : ℕ → Marked) → map marked vs ≡ map f (range_with_len 0 n) → marked (get_or vs r null_val) ≡ f r
  part_at vs f h = marked_at vs r ∙ ap (λ ms. get_or ms r null) h ∙ get_or-map-range_with_len f 0 n r r null l (omega arith)

  parts_at : (is : List Item) (ps : List Bound) (xs : List ArrayData) → length ps ≡ length is → AreOfParts n ps xs → HoldParts w n is ps xs → marked_all (vals_of (map (λ (a : ArrayData). get_or a.items r null_val) xs)) ≡ part_values (w r) r is ps
  parts_at [] [] [] e h g = refl
  parts_at [] [] (x ∷ xs) e h g = absurd h
  parts_at [] (p ∷ ps) xs e h g = absurd (omega arith)
  parts_at (i ∷ is) [] xs e h g = absurd (omega arith)
  parts_at (i ∷ is) (p ∷ ps) [] e h g = absurd h
  parts_at (i ∷ is) (p ∷ ps) (x ∷ xs) e h g = λ j. more (part_at x.items (λ k. eval p.scope p.expr (w k i) k) g.0 j) (parts_at is ps xs (omega arith) h.1 g.1 j)

pub same_map : {A : Type 0} (f g : ℕ → A) (a n : ℕ) → ((r : ℕ) → r < a + n → f r ≡ g r) → map f (range_with_len a n) ≡ map g (range_with_len a n)
same_map f g a zero h = refl
same_map f g a (suc n) h = λ i. h a (omega arith) i ∷ same_map f g (a + 1) n (λ r l. h r (omega arith)) i

pub parts_join : (d : Divided) (xs : List ArrayData) (n : ℕ) (vs : List Val) → length d.parts ≡ length d.items → AreOfParts n d.parts xs → map marked vs ≡ map (joined_at d.root xs) (range_with_len 0 n) → JoinsParts d xs n vs
parts_join d xs n vs e h g = λ w q.
    g ∙ same_map (joined_at d.root xs) (λ r. joined_value_of d (w r) r) 0 n (λ r l. ap (λ ms. eval d.root.scope d.root.expr (struct ms) r) (parts_at n w r (omega (arith, l)) d.items d.parts xs e h q))

pub whole_joins : (d : Divided) (xs : List ArrayData) (n : ℕ) (vs : List Val) → JoinsParts d xs n vs → JoinsWhole d xs n vs
whole_joins d xs n vs j = λ b v w k a q.
    j w q ∙ same_map (λ r. joined_value_of d (w r) r) (λ r. eval b.scope b.expr (v r) r) 0 n (λ r l. let o = a r (omega (arith, l)) in k.values (v r) (w r) r o.0 o.1)
