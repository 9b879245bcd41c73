-- The last places at which columns are picked.
use Rattle.std.proofs.Common.{◌≡◌, ◌≢◌, ℕ, zero, suc, ◌+◌, ◌<◌, ◌≤◌, Bool, true, false, ◌||◌, nat_eq, List, [], ◌∷◌, ◌++◌, drop, length, get_or, set, refl, ap, sym, ◌∙◌, arith, append_assoc}
use Rattle.std.specs.List.{list_any}
use Rattle.std.proofs.lemmas.Bool.{eqb-false, eqb-true}
use Rattle.std.proofs.lemmas.List.{get_or-set_other, get_or-set_same, get_or-drop, length-drop, drop_more}
use Rattle.scan_values.specs.Val.{Val}
use Rattle.scan_columns.specs.Rows.{picked}
use Rattle.scan_columns.specs.LastUses.{AreLast}

-- ---- a place that is written is the last one
set_at : (us : List ℕ) (p x k : ℕ) → p < length us → p ≡ k → get_or (set us p x) k 0 ≡ x
set_at us p x k l e = ap (λ z. get_or (set us p x) z 0) (sym e) ∙ get_or-set_same us p x 0 l

written : (us : List ℕ) (p i j k : ℕ) (b : Bool) → p < length us → nat_eq p k ≡ b → j ≤ i → j ≤ get_or us k 0 → j ≤ get_or (set us p i) k 0
written us p i j k true l e h g =
    let at : get_or (set us p i) k 0 ≡ i = set_at us p i k l (eqb-true p k e) in
    omega (arith, at, h)
written us p i j k false l e h g =
    let at : get_or (set us p i) k 0 ≡ get_or us k 0 = get_or-set_other us p k i 0 (λ q. eqb-false p k e (sym q)) in
    omega (arith, at, g)

last_at : (us ps : List ℕ) (i p j : ℕ) (b : Bool) → p < length us → p ≡ get_or ps i 0 → nat_eq j i ≡ b → j < i + 1 → (j < i → j ≤ get_or us (get_or ps j 0) 0)
    → j ≤ get_or (set us p i) (get_or ps j 0) 0
last_at us ps i p j true l e s w h =
    let same : p ≡ get_or ps j 0 = e ∙ ap (λ z. get_or ps z 0) (sym (eqb-true j i s)) in
    let at : get_or (set us p i) (get_or ps j 0) 0 ≡ i = set_at us p i (get_or ps j 0) l same in
    omega (arith, at, w)
last_at us ps i p j false l e s w h =
    let below : j < i = omega (arith, w, eqb-false j i s) in
    written us p i j (get_or ps j 0) (nat_eq p (get_or ps j 0)) l refl (omega (arith, below)) (h below)

pub last_written : (us ps : List ℕ) (i p : ℕ) → p < length us → p ≡ get_or ps i 0 → ((j : ℕ) → j < i → j ≤ get_or us (get_or ps j 0) 0)
    → (j : ℕ) → j < i + 1 → j ≤ get_or (set us p i) (get_or ps j 0) 0
last_written us ps i p l e h j w = last_at us ps i p j (nat_eq j i) l e refl w (h j)

-- ---- behind it the column is used no more
none_among : (p : ℕ) (xs : List ℕ) → ((j : ℕ) → j < length xs → get_or xs j 0 ≢ p) → list_any (λ y. nat_eq y p) xs ≡ false
none_among p [] h = refl
none_among p (x ∷ xs) h = (λ i. head (nat_eq x p) refl i || list_any (λ y. nat_eq y p) xs) ∙ none_among p xs (λ j l. h (suc j) (omega (arith, l))) where
  head : (b : Bool) → nat_eq x p ≡ b → nat_eq x p ≡ false
  head true e = absurd (h 0 (omega (arith)) (eqb-true x p e))
  head false e = e

any_default : (us : List ℕ) (p d e : ℕ) → p < length us → get_or us p d ≡ get_or us p e
any_default [] p d e l = absurd (omega (arith, l))
any_default (u ∷ us) zero d e l = refl
any_default (u ∷ us) (suc p) d e l = any_default us p d e (omega (arith, l))

pub no_later : (us ps : List ℕ) (i p d : ℕ) → AreLast ps us → p < length us → get_or us p d ≡ i → list_any (λ y. nat_eq y p) (drop (i + 1) ps) ≡ false
no_later us ps i p d h l e = none_among p (drop (i + 1) ps) (λ j w q.
    let at : get_or ps ((i + 1) + j) 0 ≡ p = sym (get_or-drop (i + 1) ps j 0) ∙ q in
    let within : (i + 1) + j < length ps = omega (arith, w, length-drop (i + 1) ps) in
    let here : get_or us (get_or ps ((i + 1) + j) 0) 0 ≡ i = ap (λ z. get_or us z 0) at ∙ any_default us p 0 d l ∙ e in
    absurd (omega (arith, h ((i + 1) + j) within, here)))

-- ---- one column more is picked
pub picked_next : (made more : List (List Val)) (cs left given : List (List Val)) (ps : List ℕ) (i : ℕ) → i < length ps → made ++ picked cs (drop i ps) ≡ picked given ps
    → more ≡ made ++ (get_or cs (get_or ps i 0) [] ∷ []) → picked left (drop (i + 1) ps) ≡ picked cs (drop (i + 1) ps) → more ++ picked left (drop (i + 1) ps) ≡ picked given ps
picked_next made more cs left given ps i l inv m k =
    let rest = picked cs (drop (i + 1) ps) in
    let x = get_or cs (get_or ps i 0) [] in
    (λ j. m j ++ k j) ∙ append_assoc made (x ∷ []) rest ∙ ap (λ (z : List ℕ). made ++ picked cs z) (sym (drop_more ps i 0 l)) ∙ inv
