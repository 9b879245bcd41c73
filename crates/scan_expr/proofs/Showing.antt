-- Names and parts, one after another.
use Rattle.std.proofs.Common.{◌≡◌, ℕ, zero, suc, ◌+◌, ◌*◌, ◌<◌, ◌≤◌, ◌==◌, List, [], ◌∷◌, ◌++◌, length, get_or, drop, map, false, sym, ap, ◌∙◌, subst, arith}
use Rattle.std.proofs.lemmas.List.{drop_more}
use Rattle.scan_values.specs.DataType.{Name}
use Rattle.scan_expr.specs.Expr.{Expr, unary, binary, pack, Parts, parts_of, expr_size, parts_size}
use Rattle.scan_expr.specs.declared.op.Unary.{Unary}
use Rattle.scan_expr.specs.declared.op.Binary.{Binary}
use Rattle.scan_values.specs.declared.ptype.Nullability.{Nullability}
use Rattle.scan_values.specs.Shown.{comma}
use Rattle.scan_expr.specs.Shown.{shown_names, shown_part, shown_parts}
use Rattle.std.proofs.lemmas.Bool.{ne_eqb}

not_zero : (i : ℕ) → ((i + 1) == 0) ≡ false
not_zero i = ne_eqb (i + 1) 0 (omega arith)

-- ---- names
pub next_name : (ns : List Name) (i : ℕ) (n : Name) → i < length ns → n ≡ get_or ns i n
    → shown_names (i == 0) (drop i ns) ≡ (comma (i == 0) ++ n) ++ shown_names ((i + 1) == 0) (drop (i + 1) ns)
next_name ns i n h at =
    ap (λ xs. shown_names (i == 0) xs) (drop_more ns i n h ∙ ap (λ x. x ∷ drop (i + 1) ns) (sym at))
    ∙ ap (λ b. (comma (i == 0) ++ n) ++ shown_names b (drop (i + 1) ns)) (sym (not_zero i))

-- ---- an expression falls to its parts
pub unary_falls : (u : Unary) (e x : Expr) → unary u e ≡ x → 4 * expr_size e + 4 ≤ 4 * expr_size x
unary_falls u e x h = subst (λ y. 4 * expr_size e + 4 ≤ 4 * expr_size y) h (omega arith)

pub binary_falls : (b : Binary) (e f x : Expr) → binary b e f ≡ x → 4 * (expr_size e + expr_size f) + 4 ≤ 4 * expr_size x
binary_falls b e f x h = subst (λ y. 4 * (expr_size e + expr_size f) + 4 ≤ 4 * expr_size y) h (omega arith)

pub pack_falls : (ps : Parts) (n : Nullability) (x : Expr) → pack ps n ≡ x → 4 * parts_size ps + 4 ≤ 4 * expr_size x
pack_falls ps n x h = subst (λ y. 4 * parts_size ps + 4 ≤ 4 * expr_size y) h (omega arith)

-- ---- parts under their names
module _ {T : Type 0} (expr : T → Expr) where
  part_size : (ns : List Name) (ts : List T) (i : ℕ) (d : T) → i < length ts → expr_size (expr (get_or ts i d)) ≤ parts_size (parts_of ns (map expr ts))
  part_size ns [] i d h = absurd (omega arith)
  part_size [] (t ∷ ts) zero d h = omega arith
  part_size (n ∷ ns) (t ∷ ts) zero d h = omega arith
  part_size [] (t ∷ ts) (suc i) d h = let e = part_size [] ts i d (omega arith) in omega (arith, e)
  part_size (n ∷ ns) (t ∷ ts) (suc i) d h = let e = part_size ns ts i d (omega arith) in omega (arith, e)

  -- the size of a part, and what is left of the text once it is shown
  pub next_part : (ns : List Name) (ts : List T) (i : ℕ) (n : Name) (t : T) → i < length ns → i < length ts → n ≡ get_or ns i n → t ≡ get_or ts i t
      → (expr_size (expr t) ≤ parts_size (parts_of ns (map expr ts)))
      × (shown_parts (i == 0) (parts_of (drop i ns) (map expr (drop i ts)))
      ≡ shown_part (i == 0) n (expr t) ++ shown_parts ((i + 1) == 0) (parts_of (drop (i + 1) ns) (map expr (drop (i + 1) ts))))
  next_part ns ts i n t hn ht an at = (
    subst (λ x. expr_size (expr x) ≤ parts_size (parts_of ns (map expr ts))) (sym at) (part_size ns ts i t ht),
    ap (λ ms. shown_parts (i == 0) (parts_of ms (map expr (drop i ts)))) (drop_more ns i n hn ∙ ap (λ m. m ∷ drop (i + 1) ns) (sym an))
        ∙ ap (λ us. shown_parts (i == 0) (parts_of (n ∷ drop (i + 1) ns) (map expr us))) (drop_more ts i t ht ∙ ap (λ u. u ∷ drop (i + 1) ts) (sym at))
        ∙ ap (λ b. shown_part (i == 0) n (expr t) ++ shown_parts b (parts_of (drop (i + 1) ns) (map expr (drop (i + 1) ts)))) (sym (not_zero i)),
  )
