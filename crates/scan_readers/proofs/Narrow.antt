-- What the rows of a mask want lies between the first true one and the last.
use Rattle.std.proofs.Common.{◌≡◌, ℕ, zero, suc, ◌+◌, ◌-◌, ◌<◌, ◌≤◌, Bool, true, false, ◌&&◌, List, [], ◌∷◌, length, take, drop, refl, ap, subst, ◌∙◌, arith, length-take, length-drop}
use Rattle.std.specs.Prelude.{nat_le, nat_lt}
use Rattle.std.specs.List.{list_all}
use Rattle.std.proofs.lemmas.Bool.Decides.{nat_tests}
use Rattle.scan_segments.specs.Source.{Store}
use Rattle.scan_expr.specs.Bound.{Bound}
use Rattle.scan_plans.specs.Came.{Came, Holds}
use Rattle.scan_plans.specs.Meaning.{true_rows}
use Rattle.scan_plans.specs.PlanData.{PlanData}
use Rattle.scan_plans.specs.Wants.{wanted, names_id}
use Rattle.scan_readers.specs.Laws.{AreBetween}
use Rattle.scan_readers.specs.PlanOf.{IsPlanOf, may_want}
use Rattle.scan_readers.specs.Readers.{ReaderState}

-- ---- of the rows of a mask
and_left : (a b : Bool) → (a && b) ≡ true → a ≡ true
and_left true b h = refl
and_left false b h = absurd cc

and_right : (a b : Bool) → (a && b) ≡ true → b ≡ true
and_right true b h = h
and_right false b h = absurd cc

first_left : (a b c : Bool) → ((a && b) && c) ≡ true → a ≡ true
first_left a b c h = and_left a b (and_left (a && b) c h)

first_right : (a b c : Bool) → ((a && b) && c) ≡ true → b ≡ true
first_right a b c h = and_right a b (and_left (a && b) c h)

-- bits before the start are false
from_start : (start end d k : ℕ) (bits : List Bool) → k + d ≡ start → AreBetween start end (true_rows k bits) → true_rows k bits ≡ true_rows start (drop d bits)
from_start start end zero k bits e h = let z : k ≡ start = omega (arith, e) in ap (λ j. true_rows j bits) z
from_start start end (suc d) k [] e h = refl
from_start start end (suc d) k (true ∷ bits) e h =
    let a = first_left (nat_le start k) (nat_lt k end) (list_all (λ i. nat_le start i && nat_lt i end) (true_rows (k + 1) bits)) h in
    let low : start ≤ k = grind (arith, nat_tests, a) in
    let z : ⊥ = omega (arith, low, e) in absurd z
from_start start end (suc d) k (false ∷ bits) e h = from_start start end d (k + 1) bits (omega (arith, e)) h

-- past the end there is no row
past_end : (start end k : ℕ) (bits : List Bool) → end ≤ k → AreBetween start end (true_rows k bits) → true_rows k bits ≡ []
past_end start end k [] e h = refl
past_end start end k (true ∷ bits) e h =
    let a = first_right (nat_le start k) (nat_lt k end) (list_all (λ i. nat_le start i && nat_lt i end) (true_rows (k + 1) bits)) h in
    let high : k < end = grind (arith, nat_tests, a) in
    let z : ⊥ = omega (arith, high, e) in absurd z
past_end start end k (false ∷ bits) e h = past_end start end (k + 1) bits (omega (arith, e)) h

to_end : (start end n k : ℕ) (bits : List Bool) → k + n ≡ end → AreBetween start end (true_rows k bits) → true_rows k bits ≡ true_rows k (take n bits)
to_end start end zero k bits e h = past_end start end k bits (omega (arith, e)) h
to_end start end (suc n) k [] e h = refl
to_end start end (suc n) k (true ∷ bits) e h =
    ap (λ is. k ∷ is) (to_end start end n (k + 1) bits (omega (arith, e)) (and_right (nat_le start k && nat_lt k end) (list_all (λ i. nat_le start i && nat_lt i end) (true_rows (k + 1) bits)) h))
to_end start end (suc n) k (false ∷ bits) e h = to_end start end n (k + 1) bits (omega (arith, e)) h

pub cut_rows : (first start end : ℕ) (mask : List Bool) → first ≤ start → start ≤ end → AreBetween start end (true_rows first mask) → true_rows first mask ≡ true_rows start (take (end - start) (drop (start - first) mask))
cut_rows first start end mask low order h =
    let front = from_start start end (start - first) first mask (omega (arith, low)) h in
    front ∙ to_end start end (end - start) start (drop (start - first) mask) (omega (arith, order)) (subst (λ is. AreBetween start end is) front h)

pub between_wanted : (s : ReaderState) (e : Bound) (p : PlanData) → IsPlanOf s e p → (store : Store) (here : Came) (first start end : ℕ) (mask : List Bool) (id : ℕ) → Holds store here → first + length mask ≤ s.rows
    → first ≤ start → start ≤ end → end ≤ first + length mask → AreBetween start end (true_rows first mask) → names_id id (wanted p.tree here (true_rows first mask)) ≡ true → may_want s e store start end id ≡ true
between_wanted s e p is store here first start end mask id holds rows low order high between w =
    let cut = cut_rows first start end mask low order between in
    let part = take (end - start) (drop (start - first) mask) in
    let a = length-take (end - start) (drop (start - first) mask) in
    let b = length-drop (start - first) mask in
    let long : start + length part ≡ end = omega (arith, a, b, low, order, high) in
    subst (λ k. may_want s e store start k id ≡ true) long
    (is.wants store here start part id holds (omega (arith, long, high, rows)) (subst (λ xs. names_id id (wanted p.tree here xs) ≡ true) cut w))
