-- What an expression reads of its scope.
use Rattle.std.proofs.Common.{◌≡◌, ℕ, zero, suc, ◌+◌, ◌<◌, ◌≤◌, Bool, true, false, ◌||◌, List, [], ◌∷◌, ◌++◌, length, get_or, drop, refl, ap, sym, subst, ◌∙◌, arith, add-one, drop-cons}
use Rattle.std.specs.List.{list_any, All}
use Rattle.std.proofs.lemmas.List.Elements.{All-get_or}
use Rattle.scan_values.specs.DataType.{DataType, Name, bool_type, int_type, utf8_type, list_type, struct_type}
use Rattle.scan_values.specs.declared.ptype.Nullability.{Nullability}
use Rattle.scan_values.specs.Kinds.{is_scalar_type}
use Rattle.scan_expr.specs.declared.op.Unary.{Unary}
use Rattle.scan_expr.specs.declared.op.Unary.TheVariants.{GetItem, Select, Exclude, Not, IsNull, IsNotNull, ListLength}
use Rattle.scan_expr.specs.Bound.{Bound, exprs_of}
use Rattle.scan_expr.specs.Expr.{Expr, root, row_index, literal, unary, binary, pack, Parts, no_parts, part, parts_of, is_root, expr_size}
use Rattle.scan_expr.specs.Infer.{infer, struct_fields}
use Rattle.scan_expr.specs.Needs.{Demand, whole, asked, uses, uses_all, needs, any_needs, use_needs, needed, has_none}
use Rattle.scan_plans.specs.Formed.{reads, any_reads, reads_root}
use Rattle.scan_columns.proofs.Sizes.{parts_total, part_below}

-- ---- the walk of an expression
pub reads_under : (d : DataType) (u : Unary) (e : Expr) → is_root e ≡ false → reads d (unary u e) ≡ reads d e
reads_under d u root h = absurd cc
reads_under d u row_index h = refl
reads_under d u (literal t v) h = refl
reads_under d u (unary w e) h = refl
reads_under d u (binary b x y) h = refl
reads_under d u (pack ps n) h = refl

pub pack_reads : (d : DataType) (ns : List Name) (es : List Expr) (n : Nullability) → reads d (pack (parts_of ns es) n) ≡ list_any (reads d) es
pack_reads d ns [] n = refl
pack_reads d [] (e ∷ es) n = ap (λ b. reads d e || b) (pack_reads d [] es n)
pack_reads d (m ∷ ns) (e ∷ es) n = ap (λ b. reads d e || b) (pack_reads d ns es n)

-- ---- an expression over a scalar that reads it needs it
or_part : (a b c d : Bool) → (a || b) ≡ true → (a ≡ true → c ≡ true) → (b ≡ true → d ≡ true) → (c || d) ≡ true
or_part true b c d h f g = rw (f refl) refl
or_part false b true d h f g = refl
or_part false b false d h f g = g h

root_needs : (d : DataType) (u : Unary) (k : Demand) → is_scalar_type d ≡ true → reads_root u d ≡ true → use_needs (asked u (struct_fields d) k) d [] ≡ true
root_needs (bool_type n) (GetItem m) k s h = refl
root_needs (bool_type n) (Select ms) k s h = refl
root_needs (bool_type n) (Exclude ms) k s h = refl
root_needs (bool_type n) Not k s h = refl
root_needs (bool_type n) IsNull k s h = rw h refl
root_needs (bool_type n) IsNotNull k s h = rw h refl
root_needs (bool_type n) ListLength k s h = refl
root_needs (int_type p n) (GetItem m) k s h = refl
root_needs (int_type p n) (Select ms) k s h = refl
root_needs (int_type p n) (Exclude ms) k s h = refl
root_needs (int_type p n) Not k s h = refl
root_needs (int_type p n) IsNull k s h = rw h refl
root_needs (int_type p n) IsNotNull k s h = rw h refl
root_needs (int_type p n) ListLength k s h = refl
root_needs (utf8_type n) (GetItem m) k s h = refl
root_needs (utf8_type n) (Select ms) k s h = refl
root_needs (utf8_type n) (Exclude ms) k s h = refl
root_needs (utf8_type n) Not k s h = refl
root_needs (utf8_type n) IsNull k s h = rw h refl
root_needs (utf8_type n) IsNotNull k s h = rw h refl
root_needs (utf8_type n) ListLength k s h = refl
root_needs (list_type t n) u k s h = absurd cc
root_needs (struct_type fs n) u k s h = absurd cc

whole_needs : (d : DataType) → is_scalar_type d ≡ true → use_needs whole d [] ≡ true
whole_needs (bool_type n) s = refl
whole_needs (int_type p n) s = refl
whole_needs (utf8_type n) s = refl
whole_needs (list_type t n) s = absurd cc
whole_needs (struct_type fs n) s = absurd cc

mutual
  -- whatever is read of its value, and where it is `$` that needs it
  all_needs : (d : DataType) (e : Expr) (k : Demand) → is_scalar_type d ≡ true → (is_root e ≡ true → use_needs k d [] ≡ true) → reads d e ≡ true → needs d e k [] ≡ true
  all_needs d root k s r h = r refl
  all_needs d row_index k s r h = absurd cc
  all_needs d (literal t v) k s r h = absurd cc
  all_needs d (unary u root) k s r h = root_needs d u k s h
  all_needs d (unary u row_index) k s r h = absurd cc
  all_needs d (unary u (literal t v)) k s r h = absurd cc
  all_needs d (unary u (unary w e)) k s r h = all_needs d (unary w e) (asked u (struct_fields (infer d (unary w e))) k) s (λ z. absurd (let y : false ≡ true = z in cc)) h
  all_needs d (unary u (binary b x y)) k s r h = all_needs d (binary b x y) (asked u (struct_fields (infer d (binary b x y))) k) s (λ z. absurd (let y : false ≡ true = z in cc)) h
  all_needs d (unary u (pack ps n)) k s r h = all_needs d (pack ps n) (asked u (struct_fields (infer d (pack ps n))) k) s (λ z. absurd (let y : false ≡ true = z in cc)) h
  all_needs d (binary b x y) k s r h = or_part (reads d x) (reads d y) (needs d x whole []) (needs d y whole []) h (all_needs d x whole s (λ z. whole_needs d s)) (all_needs d y whole s (λ z. whole_needs d s))
  all_needs d (pack ps n) k s r h = parts_need d ps s h

  parts_need : (d : DataType) (ps : Parts) → is_scalar_type d ≡ true → any_reads d ps ≡ true → any_needs d ps [] ≡ true
  parts_need d no_parts s h = absurd cc
  parts_need d (part n e ps) s h = or_part (reads d e) (any_reads d ps) (needs d e whole []) (any_needs d ps []) h (all_needs d e whole s (λ z. whole_needs d s)) (parts_need d ps s)

some_of : {A : Type 0} (xs ys : List A) (a b : Bool) → (a || b) ≡ true → (a ≡ true → has_none xs ≡ false) → (b ≡ true → has_none ys ≡ false) → has_none (xs ++ ys) ≡ false
some_of [] ys true b h f g = absurd (let z = f refl in cc)
some_of [] ys false b h f g = g h
some_of (x ∷ xs) ys a b h f g = refl

mutual
  some_use : (d : DataType) (e : Expr) (k : Demand) → reads d e ≡ true → has_none (uses d e k) ≡ false
  some_use d root k h = refl
  some_use d row_index k h = absurd cc
  some_use d (literal t v) k h = absurd cc
  some_use d (unary u root) k h = refl
  some_use d (unary u row_index) k h = absurd cc
  some_use d (unary u (literal t v)) k h = absurd cc
  some_use d (unary u (unary w e)) k h = some_use d (unary w e) (asked u (struct_fields (infer d (unary w e))) k) h
  some_use d (unary u (binary b x y)) k h = some_use d (binary b x y) (asked u (struct_fields (infer d (binary b x y))) k) h
  some_use d (unary u (pack ps n)) k h = some_use d (pack ps n) (asked u (struct_fields (infer d (pack ps n))) k) h
  some_use d (binary b x y) k h = some_of (uses d x whole) (uses d y whole) (reads d x) (reads d y) h (some_use d x whole) (some_use d y whole)
  some_use d (pack ps n) k h = some_uses d ps h

  some_uses : (d : DataType) (ps : Parts) → any_reads d ps ≡ true → has_none (uses_all d ps) ≡ false
  some_uses d no_parts h = absurd cc
  some_uses d (part n e ps) h = some_of (uses d e whole) (uses_all d ps) (reads d e) (any_reads d ps) h (some_use d e whole) (some_uses d ps)

pub needed_here : (d : DataType) (e : Expr) → is_scalar_type d ≡ true → reads d e ≡ true → needed d e [] ≡ true
needed_here d e s h = rw (some_use d e whole h) (all_needs d e whole s (λ z. whole_needs d s) h)

-- ---- the parts of a pack, one by one

pub part_reads : (d : DataType) (bs : List Bound) (k : ℕ) (b : Bound) → k < length bs → b ≡ get_or bs k b → list_any (reads d) (exprs_of (drop k bs)) ≡ (reads d b.expr || list_any (reads d) (exprs_of (drop (k + 1) bs)))
part_reads d bs k b h is = rw (drop-cons bs k b h, ← is, add-one) refl

pub no_more : (d : DataType) (bs : List Bound) (k : ℕ) → length bs ≤ k → list_any (reads d) (exprs_of (drop k bs)) ≡ false
no_more d [] zero h = refl
no_more d [] (suc k) h = refl
no_more d (b ∷ bs) zero h = absurd (omega arith)
no_more d (b ∷ bs) (suc k) h = no_more d bs k (omega arith)

-- a part of a pack is smaller
pub part_smaller : (ns : List Name) (bs : List Bound) (n : Nullability) (e : Expr) (k : ℕ) (b : Bound) → pack (parts_of ns (exprs_of bs)) n ≡ e → k < length bs → b ≡ get_or bs k b → expr_size b.expr < expr_size e
part_smaller ns bs n e k b h l is =
    let below = part_below bs k b l is in
    let total = parts_total ns (exprs_of bs) in
    let size : expr_size (pack (parts_of ns (exprs_of bs)) n) ≡ expr_size e = ap expr_size h in
    omega arith

-- ---- whether a pack reads its scope
pub pack_true : (ns : List Name) (bs : List Bound) (n : Nullability) (d : DataType) (e : Expr) (k : ℕ) (b : Bound) → pack (parts_of ns (exprs_of bs)) n ≡ e
    → list_any (reads d) (exprs_of bs) ≡ list_any (reads d) (exprs_of (drop k bs)) → k < length bs → b ≡ get_or bs k b → All (λ (x : Bound). x.scope ≡ d) bs → true ≡ reads b.scope b.expr → true ≡ reads d e
pack_true ns bs n d e k b pe inv l is all h =
    let scope : b.scope ≡ d = subst (λ (x : Bound). x.scope ≡ d) (sym is) (All-get_or (λ (x : Bound). x.scope ≡ d) bs k b l all) in
    let one : reads d b.expr ≡ true = ap (λ z. reads z b.expr) (sym scope) ∙ sym h in
    let some : (reads d b.expr || list_any (reads d) (exprs_of (drop (k + 1) bs))) ≡ true = rw one refl in
    sym (ap (reads d) (sym pe) ∙ pack_reads d ns (exprs_of bs) n ∙ inv ∙ part_reads d bs k b l is ∙ some)

pub pack_false : (ns : List Name) (bs : List Bound) (n : Nullability) (d : DataType) (e : Expr) (k : ℕ) → pack (parts_of ns (exprs_of bs)) n ≡ e → list_any (reads d) (exprs_of bs) ≡ list_any (reads d) (exprs_of (drop k bs)) → length bs ≤ k → false ≡ reads d e
pack_false ns bs n d e k pe inv l = sym (ap (reads d) (sym pe) ∙ pack_reads d ns (exprs_of bs) n ∙ inv ∙ no_more d bs k l)
