-- Where expressions overflow: row numbers and conjuncts.
use Rattle.std.proofs.Common.{◌≡◌, ℕ, Bool, true, false, ◌||◌, List, [], ◌∷◌, ◌++◌, refl, ap, sym, ◌∙◌}
use Rattle.std.specs.List.{list_any}
use Rattle.scan_values.specs.DataType.{DataType}
use Rattle.scan_values.specs.Marked.{Marked}
use Rattle.scan_expr.specs.declared.op.Binary.TheVariants.{Mask, And, Or, Equal, NotEqual, Less, LessOrEqual, Greater, GreaterOrEqual, CheckedAdd, CheckedSub}
use Rattle.scan_expr.specs.Expr.{Expr, root, row_index, literal, unary, binary, pack, Parts, no_parts, part, uses_row_index, any_uses_row_index, conjuncts_of}
use Rattle.scan_expr.specs.Overflow.{overflows, any_overflows}
use Rattle.scan_expr.proofs.Clean.{any_row}

or_none : (a b : Bool) → (a || b) ≡ false → (a ≡ false) × (b ≡ false)
or_none true b h = absurd cc
or_none false b h = (refl, h)

-- ---- row numbers
mutual
  pub any_row_overflows : (s : DataType) (e : Expr) (v : Marked) (i j : ℕ) → uses_row_index e ≡ false → overflows s e v i ≡ overflows s e v j
  any_row_overflows s root v i j h = refl
  any_row_overflows s row_index v i j h = refl
  any_row_overflows s (literal d w) v i j h = refl
  any_row_overflows s (unary u e) v i j h = any_row_overflows s e v i j h
  any_row_overflows s (binary b x y) v i j h =
      let p = or_none (uses_row_index x) (uses_row_index y) h in
      rw (any_row_overflows s x v i j p.0, any_row_overflows s y v i j p.1, any_row s x v i j p.0, any_row s y v i j p.1) refl
  any_row_overflows s (pack ps n) v i j h = any_row_overflows_all s ps v i j h

  any_row_overflows_all : (s : DataType) (ps : Parts) (v : Marked) (i j : ℕ) → any_uses_row_index ps ≡ false → any_overflows s ps v i ≡ any_overflows s ps v j
  any_row_overflows_all s no_parts v i j h = refl
  any_row_overflows_all s (part n e ps) v i j h =
      let p = or_none (uses_row_index e) (any_uses_row_index ps) h in
      rw (any_row_overflows s e v i j p.0, any_row_overflows_all s ps v i j p.1) refl

-- ---- conjuncts
or_false : (a : Bool) → (a || false) ≡ a
or_false true = refl
or_false false = refl

or_assoc : (a b c : Bool) → (a || (b || c)) ≡ ((a || b) || c)
or_assoc true b c = refl
or_assoc false b c = refl

any_append : (test : Expr → Bool) (xs ys : List Expr) → list_any test (xs ++ ys) ≡ (list_any test xs || list_any test ys)
any_append test [] ys = refl
any_append test (x ∷ xs) ys = ap (λ b. test x || b) (any_append test xs ys) ∙ or_assoc (test x) (list_any test xs) (list_any test ys)

abbrev any_conjunct : DataType → Expr → Marked → ℕ → Bool
any_conjunct s e v i = list_any (λ c. overflows s c v i) (conjuncts_of e)

pub conjuncts_overflow : (s : DataType) (e : Expr) (v : Marked) (i : ℕ) → overflows s e v i ≡ any_conjunct s e v i
conjuncts_overflow s root v i = refl
conjuncts_overflow s row_index v i = refl
conjuncts_overflow s (literal d w) v i = refl
conjuncts_overflow s (unary u e) v i = sym (or_false (overflows s e v i))
conjuncts_overflow s (binary And x y) v i =
    rw (or_false (overflows s y v i), conjuncts_overflow s x v i, conjuncts_overflow s y v i) (sym (any_append (λ c. overflows s c v i) (conjuncts_of x) (conjuncts_of y)))
conjuncts_overflow s (binary Mask x y) v i = sym (or_false (overflows s (binary Mask x y) v i))
conjuncts_overflow s (binary Or x y) v i = sym (or_false (overflows s (binary Or x y) v i))
conjuncts_overflow s (binary Equal x y) v i = sym (or_false (overflows s (binary Equal x y) v i))
conjuncts_overflow s (binary NotEqual x y) v i = sym (or_false (overflows s (binary NotEqual x y) v i))
conjuncts_overflow s (binary Less x y) v i = sym (or_false (overflows s (binary Less x y) v i))
conjuncts_overflow s (binary LessOrEqual x y) v i = sym (or_false (overflows s (binary LessOrEqual x y) v i))
conjuncts_overflow s (binary Greater x y) v i = sym (or_false (overflows s (binary Greater x y) v i))
conjuncts_overflow s (binary GreaterOrEqual x y) v i = sym (or_false (overflows s (binary GreaterOrEqual x y) v i))
conjuncts_overflow s (binary CheckedAdd x y) v i = sym (or_false (overflows s (binary CheckedAdd x y) v i))
conjuncts_overflow s (binary CheckedSub x y) v i = sym (or_false (overflows s (binary CheckedSub x y) v i))
conjuncts_overflow s (pack ps n) v i = sym (or_false (any_overflows s ps v i))
