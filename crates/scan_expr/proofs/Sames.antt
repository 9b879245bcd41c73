-- The parts of a bound expression and its operator, beside the expression.
use Rattle.std.proofs.Common.{◌≡◌, ℕ, ◌+◌, ◌<◌, suc, Bool, true, false, ◌&&◌, ◌||◌, List, [], ◌∷◌, length, get_or, drop, map, bytes_eq, refl, sym, ap, ◌∙◌, add-one, arith}
use Rattle.std.proofs.Math.Seq.{drop-cons}
use Rattle.std.specs.List.{All, AllByRecursion}
use Rattle.std.proofs.lemmas.List.Elements.{recursion_from_All}
use Rattle.scan_values.specs.DataType.{DataType, Name}
use Rattle.scan_values.specs.Same.{same_names, same_nullability}
use Rattle.scan_expr.specs.Expr.{Expr, root, row_index, literal, unary, binary, pack, Parts, no_parts, part, parts_of, uses_row_index, any_uses_row_index}
use Rattle.scan_expr.specs.Bound.{Bound, bound_of, exprs_of}
use Rattle.scan_expr.specs.Ops.{apply_op, HasArity}
use Rattle.scan_expr.specs.Children.{parts_list, children_of, is_row_op}
use Rattle.scan_expr.specs.Same.{same_expr, same_parts, same_unary, same_binary}
use Rattle.scan_expr.specs.Heads.{head_of, op_head, same_head, part_names, pack_head}
use Rattle.scan_expr.specs.declared.bound.Op.{Op}
use Rattle.scan_expr.specs.declared.bound.Op.TheVariants.{Root, RowIdx, Literal, Unary, Binary, Pack}

-- ---- parts
list-parts_of : (ns : List Name) (es : List Expr) → parts_list (parts_of ns es) ≡ es
list-parts_of ns [] = refl
list-parts_of [] (e ∷ es) = ap (λ xs. e ∷ xs) (list-parts_of [] es)
list-parts_of (n ∷ ns) (e ∷ es) = ap (λ xs. e ∷ xs) (list-parts_of ns es)

pub names-parts_of : (ns : List Name) (es : List Expr) → length es ≡ length ns → part_names (parts_of ns es) ≡ ns
names-parts_of [] [] h = refl
names-parts_of [] (e ∷ es) h = absurd (omega arith)
names-parts_of (n ∷ ns) [] h = absurd (omega arith)
names-parts_of (n ∷ ns) (e ∷ es) h = ap (λ xs. n ∷ xs) (names-parts_of ns es (omega arith))

pub length-exprs : (bs : List Bound) → length (exprs_of bs) ≡ length bs
length-exprs [] = refl
length-exprs (b ∷ bs) = ap suc (length-exprs bs)

pub children-apply : (op : Op) (bs : List Bound) → HasArity op (length bs) → children_of (apply_op op (exprs_of bs)) ≡ exprs_of bs
children-apply Root [] h = refl
children-apply Root (b ∷ bs) h = absurd (omega arith)
children-apply RowIdx [] h = refl
children-apply RowIdx (b ∷ bs) h = absurd (omega arith)
children-apply (Literal d v) [] h = refl
children-apply (Literal d v) (b ∷ bs) h = absurd (omega arith)
children-apply (Unary u) [] h = absurd (omega arith)
children-apply (Unary u) (b ∷ []) h = refl
children-apply (Unary u) (b ∷ c ∷ bs) h = absurd (omega arith)
children-apply (Binary o) [] h = absurd (omega arith)
children-apply (Binary o) (b ∷ []) h = absurd (omega arith)
children-apply (Binary o) (b ∷ c ∷ []) h = refl
children-apply (Binary o) (b ∷ c ∷ d ∷ bs) h = absurd (omega arith)
children-apply (Pack ns n) bs h = list-parts_of ns (exprs_of bs)

pub head-apply : (op : Op) (bs : List Bound) → HasArity op (length bs) → head_of (apply_op op (exprs_of bs)) ≡ op_head op
head-apply Root bs h = refl
head-apply RowIdx bs h = refl
head-apply (Literal d v) bs h = refl
head-apply (Unary u) [] h = absurd (omega arith)
head-apply (Unary u) (b ∷ bs) h = refl
head-apply (Binary o) [] h = absurd (omega arith)
head-apply (Binary o) (b ∷ []) h = absurd (omega arith)
head-apply (Binary o) (b ∷ c ∷ bs) h = refl
head-apply (Pack ns n) bs h = ap (λ ms. pack_head ms n) (names-parts_of ns (exprs_of bs) (omega (arith, length-exprs bs)))

scoped : (s : DataType) (bs : List Bound) → AllByRecursion (λ b. b.scope ≡ s) bs → map (bound_of s) (exprs_of bs) ≡ bs
scoped s [] h = refl
scoped s (b ∷ bs) h = λ i. (record { scope = sym h.0 i; expr = b.expr }) ∷ scoped s bs h.1 i

pub children-bound : (op : Op) (s : DataType) (bs : List Bound) → HasArity op (length bs) → All (λ b. b.scope ≡ s) bs → bs ≡ map (bound_of s) (children_of (apply_op op (exprs_of bs)))
children-bound op s bs h g = rw (children-apply op bs h) (sym (scoped s bs (recursion_from_All (λ (b : Bound). b.scope ≡ s) bs g)))

-- ---- row numbers
abbrev pub rows_in : List Bound → Bool
rows_in [] = false
rows_in (b ∷ bs) = uses_row_index b.expr || rows_in bs

or_false : (a : Bool) → a ≡ (a || false)
or_false true = refl
or_false false = refl

any-parts_of : (ns : List Name) (bs : List Bound) → any_uses_row_index (parts_of ns (exprs_of bs)) ≡ rows_in bs
any-parts_of ns [] = refl
any-parts_of [] (b ∷ bs) = ap (λ a. uses_row_index b.expr || a) (any-parts_of [] bs)
any-parts_of (n ∷ ns) (b ∷ bs) = ap (λ a. uses_row_index b.expr || a) (any-parts_of ns bs)

pub rows-apply : (op : Op) (bs : List Bound) → HasArity op (length bs) → uses_row_index (apply_op op (exprs_of bs)) ≡ (is_row_op op || rows_in bs)
rows-apply Root [] h = refl
rows-apply Root (b ∷ bs) h = absurd (omega arith)
rows-apply RowIdx bs h = refl
rows-apply (Literal d v) [] h = refl
rows-apply (Literal d v) (b ∷ bs) h = absurd (omega arith)
rows-apply (Unary u) [] h = absurd (omega arith)
rows-apply (Unary u) (b ∷ []) h = or_false (uses_row_index b.expr)
rows-apply (Unary u) (b ∷ c ∷ bs) h = absurd (omega arith)
rows-apply (Binary o) [] h = absurd (omega arith)
rows-apply (Binary o) (b ∷ []) h = absurd (omega arith)
rows-apply (Binary o) (b ∷ c ∷ []) h = ap (λ a. uses_row_index b.expr || a) (or_false (uses_row_index c.expr))
rows-apply (Binary o) (b ∷ c ∷ d ∷ bs) h = absurd (omega arith)
rows-apply (Pack ns n) bs h = any-parts_of ns bs

-- ---- equality
abbrev pub same_list : List Expr → List Expr → Bool
same_list [] [] = true
same_list [] (y ∷ ys) = false
same_list (x ∷ xs) [] = false
same_list (x ∷ xs) (y ∷ ys) = same_expr x y && same_list xs ys

shuffle : (a e n l : Bool) → (a && (e && (n && l))) ≡ ((a && n) && (e && l))
shuffle false e n l = refl
shuffle true false true l = refl
shuffle true false false l = refl
shuffle true true n l = refl

same-parts : (ps qs : Parts) → same_parts ps qs ≡ (same_names (part_names ps) (part_names qs) && same_list (parts_list ps) (parts_list qs))
same-parts no_parts no_parts = refl
same-parts no_parts (part m y qs) = refl
same-parts (part n x ps) no_parts = refl
same-parts (part n x ps) (part m y qs) =
    ap (λ b. bytes_eq n m && (same_expr x y && b)) (same-parts ps qs) ∙ shuffle (bytes_eq n m) (same_expr x y) (same_names (part_names ps) (part_names qs)) (same_list (parts_list ps) (parts_list qs))

and_true : (a : Bool) → a ≡ (a && true)
and_true true = refl
and_true false = refl

and_assoc : (a b c : Bool) → (a && (b && c)) ≡ ((a && b) && c)
and_assoc true b c = refl
and_assoc false b c = refl

pub same-split : (x y : Expr) → same_expr x y ≡ (same_head (head_of x) (head_of y) && same_list (children_of x) (children_of y))
same-split root root = refl
same-split row_index row_index = refl
same-split (literal d v) (literal e w) = and_true (same_head (head_of (literal d v)) (head_of (literal e w)))
same-split (unary u x) (unary w y) = ap (λ b. same_unary u w && b) (and_true (same_expr x y))
same-split (binary o x y) (binary c z w) = ap (λ b. same_binary o c && (same_expr x z && b)) (and_true (same_expr y w))
same-split (pack ps n) (pack qs m) = ap (λ b. same_nullability n m && b) (same-parts ps qs) ∙ and_assoc (same_nullability n m) (same_names (part_names ps) (part_names qs)) (same_list (parts_list ps) (parts_list qs))
same-split x y = refl

abbrev pub same_bounds : List Bound → List Bound → Bool
same_bounds [] [] = true
same_bounds [] (c ∷ cs) = false
same_bounds (b ∷ bs) [] = false
same_bounds (b ∷ bs) (c ∷ cs) = same_expr b.expr c.expr && same_bounds bs cs

list-bounds : (bs cs : List Bound) → same_list (exprs_of bs) (exprs_of cs) ≡ same_bounds bs cs
list-bounds [] [] = refl
list-bounds [] (c ∷ cs) = refl
list-bounds (b ∷ bs) [] = refl
list-bounds (b ∷ bs) (c ∷ cs) = ap (λ a. same_expr b.expr c.expr && a) (list-bounds bs cs)

pub same-apply : (p q : Op) (bs cs : List Bound) → HasArity p (length bs) → HasArity q (length cs)
    → same_expr (apply_op p (exprs_of bs)) (apply_op q (exprs_of cs)) ≡ (same_head (op_head p) (op_head q) && same_bounds bs cs)
same-apply p q bs cs h g =
    same-split (apply_op p (exprs_of bs)) (apply_op q (exprs_of cs))
    ∙ rw (head-apply p bs h, head-apply q cs g, children-apply p bs h, children-apply q cs g, list-bounds bs cs) refl

pub bounds_turn : (bs cs : List Bound) (i : ℕ) (b c : Bound) → i < length bs → i < length cs → b ≡ get_or bs i b → c ≡ get_or cs i c
    → same_bounds (drop i bs) (drop i cs) ≡ (same_expr b.expr c.expr && same_bounds (drop (i + 1) bs) (drop (i + 1) cs))
bounds_turn bs cs i b c h g e f = rw (add-one, drop-cons bs i b, drop-cons cs i c, ← e, ← f) refl
