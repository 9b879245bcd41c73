-- A filter in place: what passes moves to the front.
use Rattle.std.proofs.Common.{◌≡◌, ℕ, suc, ◌+◌, ◌<◌, ◌≤◌, Bool, true, false, List, [], ◌∷◌, ◌++◌, length, take, drop, get_or, refl, sym, ◌∙◌, arith, append_assoc, add-one, drop-cons}
use Rattle.std.proofs.Math.ListN.{set}
use Rattle.std.specs.List.{items_where_true}
use Rattle.std.proofs.lemmas.Grind.{take-set_at}
use Rattle.std.proofs.lemmas.List.{take-set, drop-set-lt, append-nil}
use mir.Val.{bool_byte}

taken : {A : Type 0} (b : Bool) (bs : List Bool) (x : A) (xs : List A) → items_where_true (b ∷ bs) (x ∷ xs) ≡ items_where_true (b ∷ []) (x ∷ []) ++ items_where_true bs xs
taken true bs x xs = refl
taken false bs x xs = refl

pub front : {A : Type 0} (b : Bool) (xs : List A) (k : ℕ) (x : A) → k < length xs → take (k + bool_byte b) (set xs k x) ≡ take k xs ++ items_where_true (b ∷ []) (x ∷ [])
front true xs k x h = take-set_at xs k (k + bool_byte true) x refl h
front false xs k x h = let none : k + bool_byte false ≡ k = omega arith in (λ i. take (none i) (set xs k x)) ∙ take-set xs k x ∙ sym (append-nil (take k xs))

pub kept_step : {A : Type 0} (bs : List Bool) (xs : List A) (i k : ℕ) (x : A) (whole : List A) → k ≤ i → i < length bs → length xs ≡ length bs → x ≡ get_or xs i x
    → take k xs ++ items_where_true (drop i bs) (drop i xs) ≡ whole
    → take (k + bool_byte (get_or bs i false)) (set xs k x) ++ items_where_true (drop (i + 1) bs) (drop (i + 1) (set xs k x)) ≡ whole
kept_step bs xs i k x whole behind low even is inv =
    let b = get_or bs i false in
    let inside : i < length xs = omega (arith, low, even) in
    let room : k < length xs = omega (arith, behind, inside) in
    let rest : drop (i + 1) (set xs k x) ≡ drop (i + 1) xs = drop-set-lt (i + 1) xs k x (omega arith) in
    let bits : drop i bs ≡ b ∷ drop (i + 1) bs = rw add-one (drop-cons bs i false low) in
    let items : drop i xs ≡ x ∷ drop (i + 1) xs = rw add-one (drop-cons xs i x inside ∙ (λ j. sym is j ∷ drop (suc i) xs)) in
    let after = items_where_true (drop (i + 1) bs) (drop (i + 1) xs) in
    (λ j. front b xs k x room j ++ items_where_true (drop (i + 1) bs) (rest j))
    ∙ append_assoc (take k xs) (items_where_true (b ∷ []) (x ∷ [])) after
    ∙ (λ j. take k xs ++ sym (taken b (drop (i + 1) bs) x (drop (i + 1) xs)) j)
    ∙ (λ j. take k xs ++ items_where_true (sym bits j) (sym items j))
    ∙ inv

pub byte_low : (b : Bool) → bool_byte b ≤ 1
byte_low true = omega arith
byte_low false = omega arith
