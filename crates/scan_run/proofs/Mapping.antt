-- A map that is filled in the order of its keys.
use Rattle.std.proofs.Common.{◌≡◌, ℕ, ◌+◌, ◌<◌, ◌≤◌, ◌==◌, List, [], ◌∷◌, ◌++◌, refl, sym, ap, ◌∙◌, subst, arith, cond, true, false}
use Rattle.std.specs.Prelude.{nat_lt}
use Rattle.std.specs.Ordering.{nat_cmp, match_ordering}
use Rattle.std.specs.declared.cmp.Ordering.{Ordering}
use Rattle.std.specs.declared.cmp.Ordering.TheVariants.{Less, Equal, Greater}
use Rattle.std.specs.Cmp.{nat_cmp_is}
use Rattle.std.specs.BTreeMap.{insert_entry}

abbrev pub AllBelow : {X : Type 0} → ℕ → List (ℕ × X) → Type 0
AllBelow id [] = Unit {0}
AllBelow id (e ∷ es) = (e.0 < id) × AllBelow id es

greater : (a b : ℕ) → b < a → nat_cmp a b ≡ Greater
greater a b h = sym (nat_cmp_is a b Greater h)

pub insert_last : {X : Type 0} (es : List (ℕ × X)) (id : ℕ) (x : X) → AllBelow id es → insert_entry nat_cmp es id x ≡ es ++ (id, x) ∷ []
insert_last [] id x h = refl
insert_last (e ∷ es) id x h =
    ap (λ o. match_ordering o ((id, x) ∷ e ∷ es) ((e.0, x) ∷ es) (e ∷ insert_entry nat_cmp es id x)) (greater id e.0 h.0)
    ∙ ap (λ ys. e ∷ ys) (insert_last es id x h.1)

pub below_last : {X : Type 0} (es : List (ℕ × X)) (id : ℕ) (x : X) → AllBelow id es → AllBelow (id + 1) (es ++ (id, x) ∷ [])
below_last [] id x h = (omega arith, tt)
below_last (e ∷ es) id x h = (omega (arith, h.0), below_last es id x h.1)
