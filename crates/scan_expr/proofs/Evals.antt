-- Lists of values, one for each part or row.
use Rattle.std.proofs.Common.{◌≡◌, ℕ, Bool, false, ◌||◌, List, [], ◌∷◌, map, refl, ap, ◌∙◌}
use Rattle.std.specs.List.{All, AllByRecursion}
use Rattle.std.proofs.lemmas.List.Elements.{recursion_from_All}
use Rattle.scan_values.specs.DataType.{DataType, Name}
use Rattle.scan_values.specs.declared.ptype.Nullability.{Nullability}
use Rattle.scan_values.specs.Marked.{Marked, struct, more, chained}
use Rattle.scan_values.specs.Val.{vals_of, marked, marked_all}
use Rattle.scan_values.specs.Values.{val_of}
use Rattle.scan_values.specs.declared.value.Value.{Value}
use Rattle.scan_expr.specs.Bound.{Bound, exprs_of}
use Rattle.scan_expr.specs.Expr.{Expr, pack, parts_of}
use Rattle.scan_expr.specs.Eval.{eval, eval_all}
use Rattle.scan_expr.specs.Overflow.{overflows, any_overflows, overflows_on}

abbrev pub mark : Value → Marked
mark v = marked (val_of v)

pub marks : (vs : List Value) → marked_all (vals_of (map val_of vs)) ≡ chained (map mark vs)
marks [] = refl
marks (v ∷ vs) = ap (more (mark v)) (marks vs)

pub marks-map : (vs : List Value) → map marked (map val_of vs) ≡ map mark vs
marks-map [] = refl
marks-map (v ∷ vs) = ap (λ ms. mark v ∷ ms) (marks-map vs)

eval_all-parts_of : (s : DataType) (ns : List Name) (es : List Expr) (v : Marked) (i : ℕ) → chained (map (λ e. eval s e v i) es) ≡ eval_all s (parts_of ns es) v i
eval_all-parts_of s ns [] v i = refl
eval_all-parts_of s [] (e ∷ es) v i = ap (more (eval s e v i)) (eval_all-parts_of s [] es v i)
eval_all-parts_of s (n ∷ ns) (e ∷ es) v i = ap (more (eval s e v i)) (eval_all-parts_of s ns es v i)

map-eval : (s : DataType) (bs : List Bound) (v : Marked) (i : ℕ) → AllByRecursion (λ b. b.scope ≡ s) bs → map (λ b. eval b.scope b.expr v i) bs ≡ map (λ e. eval s e v i) (exprs_of bs)
map-eval s [] v i h = refl
map-eval s (b ∷ bs) v i h = rw (h.0, map-eval s bs v i h.1)

pub eval_pack : (s : DataType) (ns : List Name) (n : Nullability) (bs : List Bound) (v : Marked) (i : ℕ) (vs : List Value) → All (λ b. b.scope ≡ s) bs → map mark vs ≡ map (λ b. eval b.scope b.expr v i) bs
    → struct (marked_all (vals_of (map val_of vs))) ≡ eval s (pack (parts_of ns (exprs_of bs)) n) v i
eval_pack s ns n bs v i vs h e =
    ap struct (marks vs ∙ ap chained (e ∙ map-eval s bs v i (recursion_from_All (λ b. b.scope ≡ s) bs h)) ∙ eval_all-parts_of s ns (exprs_of bs) v i)

pub map-rows : (s : DataType) (e : Expr) (rows : List Value) → map (λ v. eval s e (mark v) 0) rows ≡ map (λ v. eval s e (marked v) 0) (map val_of rows)
map-rows s e [] = refl
map-rows s e (v ∷ rows) = ap (λ ms. eval s e (mark v) 0 ∷ ms) (map-rows s e rows)

-- ---- where one of some parts overflows
abbrev pub part_overflows : Marked → ℕ → List Bound → Bool
part_overflows v i [] = false
part_overflows v i (b ∷ bs) = overflows b.scope b.expr v i || part_overflows v i bs

overflows-parts_of : (s : DataType) (ns : List Name) (bs : List Bound) (v : Marked) (i : ℕ) → AllByRecursion (λ b. b.scope ≡ s) bs → any_overflows s (parts_of ns (exprs_of bs)) v i ≡ part_overflows v i bs
overflows-parts_of s ns [] v i h = refl
overflows-parts_of s [] (b ∷ bs) v i h = rw (h.0, overflows-parts_of s [] bs v i h.1) refl
overflows-parts_of s (n ∷ ns) (b ∷ bs) v i h = rw (h.0, overflows-parts_of s ns bs v i h.1) refl

pub pack_overflows : (s : DataType) (ns : List Name) (n : Nullability) (bs : List Bound) (v : Marked) (i : ℕ) → All (λ b. b.scope ≡ s) bs → overflows s (pack (parts_of ns (exprs_of bs)) n) v i ≡ part_overflows v i bs
pack_overflows s ns n bs v i h = overflows-parts_of s ns bs v i (recursion_from_All (λ b. b.scope ≡ s) bs h)

-- ---- where one of some rows does
abbrev pub row_overflows : DataType → Expr → List Value → Bool
row_overflows s e [] = false
row_overflows s e (v ∷ vs) = overflows s e (mark v) 0 || row_overflows s e vs

pub rows_overflow : (s : DataType) (e : Expr) (rows : List Value) → row_overflows s e rows ≡ overflows_on s e (map val_of rows)
rows_overflow s e [] = refl
rows_overflow s e (v ∷ rows) = ap (λ b. overflows s e (mark v) 0 || b) (rows_overflow s e rows)
