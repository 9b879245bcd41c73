-- The segments that a split of a file may want, or find no good.
use Rattle.std.proofs.Common.{◌≡◌, ◌+◌, ◌==◌, ◌&&◌, ◌||◌, ℕ, suc, Bool, true, false, List, [], ◌∷◌, length, map, filter, Option, None, Some, IfSome, refl, sym, ap, subst, ◌∙◌}
use Rattle.std.specs.Prelude.{not, if◌then◌else◌}
use Rattle.std.specs.List.{list_any}
use Rattle.scan_values.specs.DataType.{DataType}
use Rattle.scan_segments.specs.Source.{Store}
use Rattle.scan_expr.specs.Bound.{Bound, bound_of, exprs_of}
use Rattle.scan_expr.specs.Expr.{Expr, conjuncts_of}
use Rattle.scan_expr.specs.Needs.{needed, needed_by}
use Rattle.scan_spelling.specs.Places.{Place}
use Rattle.scan_readers.specs.Evaluations.{rows_true}
use Rattle.scan_readers.specs.PlanOf.{may_spoil, may_want, needed_places}
use Rattle.scan_readers.specs.Readers.{ReaderState, numbers_alone}
use Rattle.scan_core.specs.BuilderData.{IsFilter, conjuncts_in}
use Rattle.scan_core.specs.SplitMeaning.{has_true, rows_may_spoil, rows_may_want, split_may_spoil, split_may_want}

or_left : (a b : Bool) → a ≡ true → (a || b) ≡ true
or_left true b e = refl
or_left false b e = absurd cc

or_right : (a b : Bool) → b ≡ true → (a || b) ≡ true
or_right true b e = refl
or_right false b e = e

and_right : (a b : Bool) → (a && b) ≡ true → b ≡ true
and_right true b e = e
and_right false b e = absurd cc

or_either : (a b c : Bool) → (a || b) ≡ true → (a ≡ true → c ≡ true) → (b ≡ true → c ≡ true) → c ≡ true
or_either true b c e f g = f refl
or_either false b c e f g = g e

-- an expression needs only what passes a test
abbrev pub Sub : (Place → Bool) → Bound → Type 0
Sub test x = (p : Place) → needed x.scope x.expr p.path ≡ true → test p ≡ true

abbrev pub Subs : (Place → Bool) → List Bound → Type 0
Subs test [] = Unit {0}
Subs test (x ∷ xs) = Sub test x × Subs test xs

-- each is over this dtype
abbrev pub AllOver : DataType → List Bound → Type 0
AllOver d [] = Unit {0}
AllOver d (x ∷ xs) = (x.scope ≡ d) × AllOver d xs

subs_from : (test : Place → Bool) (d : DataType) (xs : List Bound) → AllOver d xs → ((p : Place) → needed_by d (exprs_of xs) p.path ≡ true → test p ≡ true) → Subs test xs
subs_from test d [] o up = tt
subs_from test d (x ∷ xs) o up = (
  λ p h. up p (or_left (needed d x.expr p.path) (needed_by d (exprs_of xs) p.path) (subst (λ s. needed s x.expr p.path ≡ true) o.0 h)),
  subs_from test d xs o.1 (λ p h. up p (or_right (needed d x.expr p.path) (needed_by d (exprs_of xs) p.path) h)),
)

pub subs_all : (d : DataType) (xs : List Bound) → AllOver d xs → Subs (λ p. needed_by d (exprs_of xs) p.path) xs
subs_all d xs o = subs_from (λ p. needed_by d (exprs_of xs) p.path) d xs o (λ p h. h)

each_over : (d : DataType) (es : List Expr) → AllOver d (map (bound_of d) es)
each_over d [] = tt
each_over d (e ∷ es) = (refl, each_over d es)

pub conjuncts_over : (d : DataType) (f : Option Bound) → IfSome f (IsFilter d) → AllOver d (conjuncts_in f)
conjuncts_over d None h = tt
conjuncts_over d (Some f) h = over_bound f (h.over).scope
  where
    over_all : (c : DataType) (xs : List Bound) → c ≡ d → AllOver c xs → AllOver d xs
    over_all c xs e o = subst (λ (t : DataType). AllOver t xs) e o

    over_bound : (b : Bound) → b.scope ≡ d → AllOver d (conjuncts_in (Some b))
    over_bound b e = over_all b.scope (conjuncts_in (Some b)) e (each_over b.scope (conjuncts_of b.expr))

-- what holds at a place that one of them needs holds at a place that passes
places_sub : (test q : Place → Bool) (x : Bound) (ps : List Place) → Sub test x → list_any q (needed_places x ps) ≡ true → list_any q (filter test ps) ≡ true
places_sub test q x [] s h = h
places_sub test q x (p ∷ ps) s h = go (needed x.scope x.expr p.path) (test p) (s p) (λ k. places_sub test q x ps s k) h
  where
    go : (b c : Bool) → (b ≡ true → c ≡ true) → (list_any q (needed_places x ps) ≡ true → list_any q (filter test ps) ≡ true)
        → list_any q (if b then p ∷ needed_places x ps else needed_places x ps) ≡ true → list_any q (if c then p ∷ filter test ps else filter test ps) ≡ true
    go true true f rest k = or_either (q p) (list_any q (needed_places x ps)) (q p || list_any q (filter test ps)) k (or_left (q p) (list_any q (filter test ps))) (λ m. or_right (q p) (list_any q (filter test ps)) (rest m))
    go true false f rest k = absurd (let z : false ≡ true = f refl in cc)
    go false true f rest k = or_right (q p) (list_any q (filter test ps)) (rest k)
    go false false f rest k = rest k

rows_length : (s : ReaderState) (e : Bound) (store : Store) (k : ℕ) (bits : List Bool) → length (rows_true s e store k bits) ≡ length bits
rows_length s e store k [] = refl
rows_length s e store k (b ∷ bits) = ap suc (rows_length s e store (k + 1) bits)

module _ (s : ReaderState) (test : Place → Bool) (store : Store) (first n id : ℕ) where
  -- of an expression's segments in these rows one is wanted, or no good
  abbrev pub named : Place → Bool
  named p = p.id == id

  abbrev pub flawed_there : Place → Bool
  flawed_there p = (p.id == id) && s.flawed store p

  rows_sub : (q : Place → Bool) (x : Bound) (bits : List Bool) (h : Bool) → first + length bits ≡ n → Sub test x → h ≡ list_any q (needed_places x (s.touched store first (first + length bits)))
      → (has_true bits && (not (numbers_alone s x.expr) && h)) ≡ true → list_any q (filter test (s.touched store first n)) ≡ true
  rows_sub q x bits h e sub is k =
      let here = and_right (not (numbers_alone s x.expr)) h (and_right (has_true bits) (not (numbers_alone s x.expr) && h) k) in
      places_sub test q x (s.touched store first n) sub (sym (ap (λ m. list_any q (needed_places x (s.touched store first m))) e) ∙ sym is ∙ here)

  kept_long : (c : Bound) (bits : List Bool) → first + length bits ≡ n → first + length (rows_true s c store first bits) ≡ n
  kept_long c bits long = ap (λ m. first + m) (rows_length s c store first bits) ∙ long

  pub wants_sub : (cs : List Bound) (e : Bound) (bits : List Bool) → first + length bits ≡ n → Sub test e → Subs test cs → split_may_want s cs e store first bits id ≡ true → list_any named (filter test (s.touched store first n)) ≡ true
  wants_sub [] e bits long sub subs h = rows_sub named e bits (may_want s e store first (first + length bits) id) long sub refl h
  wants_sub (c ∷ cs) e bits long sub subs h =
      or_either (rows_may_want s c store first bits id) (split_may_want s cs e store first (rows_true s c store first bits) id) (list_any named (filter test (s.touched store first n))) h
      (λ k. rows_sub named c bits (may_want s c store first (first + length bits) id) long subs.0 refl k)
      (λ k. wants_sub cs e (rows_true s c store first bits) (kept_long c bits long) sub subs.1 k)

  pub spoils_sub : (cs : List Bound) (e : Bound) (bits : List Bool) → first + length bits ≡ n → Sub test e → Subs test cs → split_may_spoil s cs e store first bits id ≡ true → list_any flawed_there (filter test (s.touched store first n)) ≡ true
  spoils_sub [] e bits long sub subs h = rows_sub flawed_there e bits (may_spoil s e store first (first + length bits) id) long sub refl h
  spoils_sub (c ∷ cs) e bits long sub subs h =
      or_either (rows_may_spoil s c store first bits id) (split_may_spoil s cs e store first (rows_true s c store first bits) id) (list_any flawed_there (filter test (s.touched store first n))) h
      (λ k. rows_sub flawed_there c bits (may_spoil s c store first (first + length bits) id) long subs.0 refl k)
      (λ k. spoils_sub cs e (rows_true s c store first bits) (kept_long c bits long) sub subs.1 k)
