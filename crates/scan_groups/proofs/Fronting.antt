-- The places of the first numbers of some.
use Rattle.std.proofs.Common.{◌≡◌, ℕ, zero, suc, ◌+◌, ◌<◌, ◌≤◌, List, [], ◌∷◌, ◌++◌, length, get_or, take, set, map, pos, ℤ, refl, sym, ap, ◌∙◌, subst, arith}
use Rattle.std.specs.Prelude.{All}
use Rattle.std.proofs.lemmas.List.{length-map, get_or_default, get_or-map}
use Rattle.std.proofs.lemmas.List.Elements.{All-push, All-weaker}
use Rattle.scan_values.specs.Val.{Val, int_val, null_val}
use Rattle.scan_groups.specs.Places.{ArePlaces, Placed, PlacedAll}
use Rattle.scan_groups.specs.Rows.{Row}
use Rattle.scan_groups.specs.declared.places.Places.{Places}
use Rattle.scan_groups.proofs.Placing.{keys_long, key_at, places_more}

-- the first so many numbers, as keys of rows, have these places
abbrev pub ArePlacedTo : List ℤ → ℕ → Places → Places → List ℕ → Type 0
ArePlacedTo numbers n old new given = (keys : ℕ) (rows more : List Row) → map (λ (row : Row). row.key) more ≡ map (λ v. v ∷ []) (map int_val numbers)
    → ArePlaces keys rows old → PlacedAll keys rows (take n more) old new given

-- one more number has a place
pub first_more : (numbers : List ℤ) (i : ℕ) (old now next : Places) (given : List ℕ) (q : ℕ) → i < length numbers → i < length given
    → ((keys : ℕ) (rows : List Row) (row : Row) → row.key ≡ int_val (get_or numbers i (pos 0)) ∷ [] → ArePlaces keys rows now → Placed keys rows row now next q)
    → ArePlacedTo numbers i old now given → ArePlacedTo numbers (i + 1) old next (set given i q)
first_more numbers i old now next given q lt long one before = λ keys rows more e h.
    let vs : List Val = map int_val numbers in
    let n = length-map numbers int_val in
    let within : i < length vs = omega (arith, n, lt) in
    let same = keys_long more vs e in
    let l : i < length more = omega (arith, within, same) in
    let blank : Row = record { key = []; read = [] } in
    let row = get_or more i blank in
    let b = before keys rows more e h in
    let is : int_val (get_or numbers i (pos 0)) ≡ get_or vs i null_val = sym (get_or-map int_val numbers i (pos 0) null_val lt) in
    let key = key_at more vs i blank null_val l e ∙ ap (λ v. v ∷ []) (sym is) in
    places_more keys rows more i row old now next given q l long (get_or_default more i blank row l) b (one keys (rows ++ take i more) row key b.places)

take-set-more : (ps : List ℕ) (i p : ℕ) → i < length ps → take (i + 1) (set ps i p) ≡ take i ps ++ p ∷ []
take-set-more [] i p lt = absurd (omega (arith, lt))
take-set-more (q ∷ qs) zero p lt = refl
take-set-more (q ∷ qs) (suc i) p lt =
    let e : suc i + 1 ≡ suc (i + 1) = omega arith in
    ap (λ n. take n (set (q ∷ qs) (suc i) p)) e ∙ ap (λ xs. q ∷ xs) (take-set-more qs i p (omega (arith, lt)))

-- one more place, below what may be another end
pub below_more : (ps : List ℕ) (i p end next : ℕ) → i < length ps → end ≤ next → p < next → All (λ q. q < end) (take i ps) → All (λ q. q < next) (take (i + 1) (set ps i p))
below_more ps i p end next lt le below h =
    subst (All (λ q. q < next)) (sym (take-set-more ps i p lt)) (All-push (λ q. q < next) (take i ps) p (All-weaker (λ q. q < end) (λ q. q < next) (λ q l. omega (arith, l, le)) (take i ps) h) below)
