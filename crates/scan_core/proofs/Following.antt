-- The ranges of splits follow each other.
use Rattle.std.proofs.Common.{◌≡◌, ◌<◌, ℕ, Bool, true, false, nat_lt, List, [], ◌∷◌, ◌++◌, if◌then◌else◌, refl, subst, arith}
use Rattle.std.proofs.lemmas.Bool.Decides.{nat_tests}
use Rattle.scan_values.specs.StrictSorted.{is_rising}
use Rattle.scan_values.proofs.Rising.{Above-rest, is_rising-rest}
use Rattle.scan_layout.specs.Edges.{is_inside}
use Rattle.scan_core.specs.SplitRanges.{neighbours, inside, last_from, Follow, SplitsOfARangeFollow, SplitsOfAllFollow}
use Rattle.scan_core.proofs.Picking.{AreBelow, filter_below, filter_rising, above_rising}
use Rattle.scan_core.proofs.Reaching.{and_right, filter_over}

neighbours_follow : (x : ℕ) (xs : List ℕ) → is_rising (x ∷ xs) ≡ true → Follow x (last_from x xs) (neighbours (x ∷ xs))
neighbours_follow x [] h = refl
neighbours_follow x (y ∷ ys) h = (refl, (Above-rest x (y ∷ ys) h).0, neighbours_follow y ys (is_rising-rest x (y ∷ ys) h))

-- ---- rising numbers below another, and that
ends_rise : (e x : ℕ) (ys : List ℕ) → is_rising (x ∷ ys) ≡ true → x < e → AreBelow e ys → is_rising (x ∷ ys ++ e ∷ []) ≡ true
ends_rise e x [] h l a = let less : nat_lt x e ≡ true = grind (arith, nat_tests, l) in rw less refl
ends_rise e x (y ∷ ys) h l a =
    let up = (Above-rest x (y ∷ ys) h).0 in
    let less : nat_lt x y ≡ true = grind (arith, nat_tests, up) in
    rw less (ends_rise e y ys (is_rising-rest x (y ∷ ys) h) a.0 a.1)

ends_last : (e x : ℕ) (ys : List ℕ) → last_from x (ys ++ e ∷ []) ≡ e
ends_last e x [] = refl
ends_last e x (y ∷ ys) = ends_last e y ys

pub splits_of_a_range : SplitsOfARangeFollow
splits_of_a_range bs r h l = go (nat_lt r.start r.end) refl
  where
    go : (b : Bool) → nat_lt r.start r.end ≡ b → Follow r.start r.end (if b then neighbours (r.start ∷ inside r bs ++ r.end ∷ []) else [])
    go false e = grind (arith, nat_tests, e, l)
    go true e =
        let some : r.start < r.end = grind (arith, nat_tests, e) in
        let up : is_rising (r.start ∷ inside r bs) ≡ true = above_rising r.start (inside r bs) (filter_over r.start r.end bs) (filter_rising (is_inside r.start r.end) bs h) in
        let low : AreBelow r.end (inside r bs) = filter_below r.end (is_inside r.start r.end) bs (λ x k. grind (arith, nat_tests, and_right (nat_lt r.start x) (nat_lt x r.end) k)) in
        let whole = neighbours_follow r.start (inside r bs ++ r.end ∷ []) (ends_rise r.end r.start (inside r bs) up some low) in
        subst (λ z. Follow r.start z (neighbours (r.start ∷ inside r bs ++ r.end ∷ []))) (ends_last r.end r.start (inside r bs)) whole

pub splits_of_all : SplitsOfAllFollow
splits_of_all x xs h = neighbours_follow x xs h
