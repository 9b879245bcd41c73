-- A comparison with a number, by sides.
use Rattle.std.proofs.Common.{◌≡◌, ℤ, pos, negsuc, Bool, true, false, not, ◌&&◌, ◌||◌, cond, List, [], ◌∷◌, map, refl, arith}
use Rattle.std.proofs.Math.Bool.{beq}
use Rattle.std.proofs.lemmas.Bool.Decides.{nat_tests}
use Rattle.std.specs.Int.Signed.{lt_z}
use Rattle.std.specs.Ordering.{int_cmp}
use Rattle.std.specs.declared.cmp.Ordering.{Ordering}
use Rattle.std.specs.declared.cmp.Ordering.TheVariants.{Less, Equal, Greater}
use Rattle.scan_expr.specs.declared.op.Binary.{Binary}
use Rattle.scan_columns.specs.declared.compared.Sides.{Sides}
use Rattle.scan_expr.specs.Eval.{holds}
use Rattle.scan_columns.specs.Compared.{by_sides, sided}

apart : (x y : ℤ) → (lt_z x y && lt_z y x) ≡ false
apart (pos a) (pos b) = grind (arith, nat_tests)
apart (pos a) (negsuc b) = refl
apart (negsuc a) (pos b) = refl
apart (negsuc a) (negsuc b) = grind (arith, nat_tests)

told : (b other : Bool) → beq b other ≡ cond b other (not other)
told true true = refl
told true false = refl
told false true = refl
told false false = refl

split : (below above other p q : Bool) → (p && q) ≡ false → beq ((below && p) || (above && q)) other ≡ by_sides below above other (cond p Less (cond q Greater Equal))
split below above other true true h = cc
split below above other true false h = told ((below && true) || (above && false)) other
split below above other false true h = told ((below && false) || (above && true)) other
split below above other false false h = told ((below && false) || (above && false)) other

pub sided_is : (below above other : Bool) (x y : ℤ) → beq ((below && lt_z x y) || (above && lt_z y x)) other ≡ by_sides below above other (int_cmp x y)
sided_is below above other x y = split below above other (lt_z x y) (lt_z y x) (apart x y)

lower : (l e x : Bool) → cond ((beq l (not e) && true) || (x && false)) (not e) (not (not e)) ≡ l
lower true true true = refl
lower true true false = refl
lower true false true = refl
lower true false false = refl
lower false true true = refl
lower false true false = refl
lower false false true = refl
lower false false false = refl

upper : (g e x : Bool) → cond ((x && false) || (beq g (not e) && true)) (not e) (not (not e)) ≡ g
upper true true true = refl
upper true true false = refl
upper true false true = refl
upper true false false = refl
upper false true true = refl
upper false true false = refl
upper false false true = refl
upper false false false = refl

level : (e x y : Bool) → cond ((x && false) || (y && false)) (not e) (not (not e)) ≡ e
level true true true = refl
level true true false = refl
level true false true = refl
level true false false = refl
level false true true = refl
level false true false = refl
level false false true = refl
level false false false = refl

pub by_order : (op : Binary) (s : Sides) → s.other ≡ not (holds op Equal) → s.below ≡ beq (holds op Less) s.other → s.above ≡ beq (holds op Greater) s.other → (o : Ordering) → sided s o ≡ holds op o
by_order op s e b a Less = rw (b, e) (lower (holds op Less) (holds op Equal) s.above)
by_order op s e b a Equal = rw (e) (level (holds op Equal) s.below s.above)
by_order op s e b a Greater = rw (a, e) (upper (holds op Greater) (holds op Equal) s.below)

pub sided_all : (op : Binary) (s : Sides) (lit : ℤ) (zs : List ℤ) → ((o : Ordering) → sided s o ≡ holds op o) → map (λ z. sided s (int_cmp z lit)) zs ≡ map (λ z. holds op (int_cmp z lit)) zs
sided_all op s lit [] h = refl
sided_all op s lit (z ∷ zs) h = λ i. h (int_cmp z lit) i ∷ sided_all op s lit zs h i

pub sided_pairs : (op : Binary) (s : Sides) (ps : List (ℤ × ℤ)) → ((o : Ordering) → sided s o ≡ holds op o) → map (λ p. sided s (int_cmp p.0 p.1)) ps ≡ map (λ p. holds op (int_cmp p.0 p.1)) ps
sided_pairs op s [] h = refl
sided_pairs op s (p ∷ ps) h = λ i. h (int_cmp p.0 p.1) i ∷ sided_pairs op s ps h i
