-- What an expression needs is what its uses need.
use Rattle.std.proofs.Common.{◌≡◌, Bool, true, false, ◌||◌, List, [], ◌∷◌, ◌++◌, refl, ap, sym, ◌∙◌}
use Rattle.std.specs.List.{list_any}
use Rattle.scan_values.specs.DataType.{DataType}
use Rattle.scan_values.specs.Paths.{Path}
use Rattle.scan_expr.specs.Expr.{Expr, root, row_index, literal, unary, binary, pack, Parts, no_parts, part}
use Rattle.scan_expr.specs.Infer.{infer, struct_fields}
use Rattle.scan_expr.specs.Needs.{Demand, whole, asked, uses, uses_all, needs, any_needs, use_needs}

or_false : (a : Bool) → (a || false) ≡ a
or_false true = refl
or_false false = refl

or_assoc : (a b c : Bool) → (a || (b || c)) ≡ ((a || b) || c)
or_assoc true b c = refl
or_assoc false b c = refl

any_append : (test : Demand → Bool) (xs ys : List Demand) → list_any test (xs ++ ys) ≡ (list_any test xs || list_any test ys)
any_append test [] ys = refl
any_append test (x ∷ xs) ys = ap (λ b. test x || b) (any_append test xs ys) ∙ or_assoc (test x) (list_any test xs) (list_any test ys)

mutual
  pub needs-uses : (s : DataType) (e : Expr) (k : Demand) (p : Path) → needs s e k p ≡ list_any (λ u. use_needs u s p) (uses s e k)
  needs-uses s root k p = sym (or_false (use_needs k s p))
  needs-uses s row_index k p = refl
  needs-uses s (literal d v) k p = refl
  needs-uses s (unary u e) k p = needs-uses s e (asked u (struct_fields (infer s e)) k) p
  needs-uses s (binary b x y) k p =
      rw (needs-uses s x whole p, needs-uses s y whole p) (sym (any_append (λ u. use_needs u s p) (uses s x whole) (uses s y whole)))
  needs-uses s (pack ps n) k p = needs-uses_all s ps p

  pub needs-uses_all : (s : DataType) (ps : Parts) (p : Path) → any_needs s ps p ≡ list_any (λ u. use_needs u s p) (uses_all s ps)
  needs-uses_all s no_parts p = refl
  needs-uses_all s (part n e ps) p =
      rw (needs-uses s e whole p, needs-uses_all s ps p) (sym (any_append (λ u. use_needs u s p) (uses s e whole) (uses_all s ps)))
