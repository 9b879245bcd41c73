-- Totals with further values, each at a place.
use Rattle.std.proofs.Common.{◌≡◌, ◌⊎◌, inl, inr, ℕ, zero, suc, ◌+◌, ◌-◌, ◌<◌, ◌≤◌, Bool, true, false, cond, List, [], ◌∷◌, ◌++◌, length, get_or, set, take, map, refl, sym, ap, ◌∙◌, subst, arith, append_assoc, append-nil}
use Rattle.std.specs.Prelude.{◌==◌, All, IfOk, Result, Ok, Err, ℤ, replicate, not, filter}
use Rattle.std.proofs.lemmas.Bool.{eqb-true, eqb-false}
use Rattle.std.proofs.lemmas.List.{get_or-set_same, get_or-set_other, length-take-le, take_more, take_all, length-append, length-replicate, length_push}
use Rattle.std.proofs.lemmas.List.Elements.{filter-append, filter_passes, All-weaker, All-push}
use Rattle.scan_values.specs.Val.{Val, null_val, int_val}
use Rattle.scan_groups.specs.Order.{number_of}
use Rattle.scan_groups.specs.Rows.{IsLeast, IsGreatest, OrNull, is_null}
use Rattle.scan_groups.specs.Totals.{Adds, IsCount, IsCountOf, IsGreatestOf, IsLeastOf, IsSum, IsSumOf, NoneNull, picked, there}
use Rattle.scan_groups.specs.declared.sum.Sum.{Sum}
use Rattle.scan_values.specs.Values.{val_of}
use Rattle.scan_values.specs.declared.memory.NoMemory.{NoMemory}
use Rattle.scan_values.specs.declared.value.Value.{Value}
use Rattle.scan_groups.proofs.Placing.{less_or_not}
use Rattle.scan_groups.proofs.Sums.{sum_as}

cond_more : (b : Bool) (v : Val) (us bs cs : List Val) → us ≡ bs ++ cs → cond b (v ∷ us) us ≡ cond b (v ∷ bs) bs ++ cs
cond_more true v us bs cs e = ap (λ xs. v ∷ xs) e
cond_more false v us bs cs e = e

picked_push : (p : ℕ) (qs : List ℕ) (vs : List Val) (q : ℕ) (v : Val) → length qs ≡ length vs → picked p (qs ++ q ∷ []) (vs ++ v ∷ []) ≡ picked p qs vs ++ cond (q == p) (v ∷ []) []
picked_push p [] [] q v e = refl
picked_push p [] (w ∷ ws) q v e = absurd (omega (arith, e))
picked_push p (r ∷ rs) [] q v e = absurd (omega (arith, e))
picked_push p (r ∷ rs) (w ∷ ws) q v e =
    cond_more (r == p) w (picked p (rs ++ q ∷ []) (ws ++ v ∷ [])) (picked p rs ws) (cond (q == p) (v ∷ []) []) (picked_push p rs ws q v (omega (arith, e)))

picked_more : (p i : ℕ) (qs : List ℕ) (vs : List Val) (q : ℕ) (v : Val) → i < length qs → i < length vs → q ≡ get_or qs i 0 → v ≡ get_or vs i null_val
    → picked p (take (i + 1) qs) (take (i + 1) vs) ≡ picked p (take i qs) (take i vs) ++ cond (q == p) (v ∷ []) []
picked_more p i qs vs q v l m e f =
    let n : length (take i qs) ≡ length (take i vs) = length-take-le i qs (omega (arith, l)) ∙ sym (length-take-le i vs (omega (arith, m))) in
    let a : take (i + 1) qs ≡ take i qs ++ q ∷ [] = take_more qs i 0 l ∙ ap (λ x. take i qs ++ x ∷ []) (sym e) in
    let b : take (i + 1) vs ≡ take i vs ++ v ∷ [] = take_more vs i null_val m ∙ ap (λ x. take i vs ++ x ∷ []) (sym f) in
    ap (λ x. picked p x (take (i + 1) vs)) a ∙ ap (picked p (take i qs ++ q ∷ [])) b ∙ picked_push p (take i qs) (take i vs) q v n

-- ---- at each place, the first so many values
module _ {X : Type 0} (R : List Val → X → Type 0) (none : X) where
  pub adds_none : (qs : List ℕ) (vs : List Val) (xs : List X) → Adds R none (take 0 qs) (take 0 vs) xs xs
  adds_none qs vs xs = λ before p h. subst (λ ys. R ys (get_or xs p none)) (sym (append-nil before)) h

  pub adds_more : (i : ℕ) (qs : List ℕ) (vs : List Val) (old now : List X) (q : ℕ) (v : Val) (x : X) → i < length qs → i < length vs → q ≡ get_or qs i 0 → v ≡ get_or vs i null_val
      → q < length now → ((us : List Val) → R us (get_or now q none) → R (us ++ v ∷ []) x)
      → Adds R none (take i qs) (take i vs) old now → Adds R none (take (i + 1) qs) (take (i + 1) vs) old (set now q x)
  adds_more i qs vs old now q v x l m e f lt more h = λ before p r. go before p (h before p r) (q == p) refl
    where
      go : (before : List Val) (p : ℕ) → R (before ++ picked p (take i qs) (take i vs)) (get_or now p none) → (b : Bool) → (q == p) ≡ b
          → R (before ++ picked p (take (i + 1) qs) (take (i + 1) vs)) (get_or (set now q x) p none)
      go before p r true t =
          let s : q ≡ p = eqb-true q p t in
          let first = picked p (take i qs) (take i vs) in
          let all : (before ++ first) ++ v ∷ [] ≡ before ++ picked p (take (i + 1) qs) (take (i + 1) vs) =
          append_assoc before first (v ∷ []) ∙ ap (λ ys. before ++ ys) (ap (λ b. first ++ cond b (v ∷ []) []) (sym t) ∙ sym (picked_more p i qs vs q v l m e f)) in
          let at : x ≡ get_or (set now q x) p none = sym (get_or-set_same now q x none lt) ∙ ap (λ k. get_or (set now q x) k none) s in
          subst (λ ys. R ys (get_or (set now q x) p none)) all (subst (λ y. R ((before ++ first) ++ v ∷ []) y) at (more (before ++ first) (subst (λ k. R (before ++ first) (get_or now k none)) (sym s) r)))
      go before p r false t =
          let d : p ≡ q → ⊥ = λ s. eqb-false q p t (sym s) in
          let first = picked p (take i qs) (take i vs) in
          let all : before ++ first ≡ before ++ picked p (take (i + 1) qs) (take (i + 1) vs) =
          ap (λ ys. before ++ ys) (sym (append-nil first) ∙ ap (λ b. first ++ cond b (v ∷ []) []) (sym t) ∙ sym (picked_more p i qs vs q v l m e f)) in
          subst (λ ys. R ys (get_or (set now q x) p none)) all (subst (λ y. R (before ++ first) y) (sym (get_or-set_other now q p x none d)) r)

  pub adds_all : (i : ℕ) (qs : List ℕ) (vs : List Val) (old now : List X) → length qs ≤ i → length vs ≤ i → Adds R none (take i qs) (take i vs) old now → Adds R none qs vs old now
  adds_all i qs vs old now l m h = subst (λ ps. Adds R none ps vs old now) (take_all i qs l) (subst (λ us. Adds R none (take i qs) us old now) (take_all i vs m) h)

-- ---- further places that have the total of none
pub get_or-grown : {X : Type 0} (xs : List X) (n p : ℕ) (x : X) → get_or (xs ++ replicate n x) p x ≡ get_or xs p x
get_or-grown [] zero p x = refl
get_or-grown [] (suc n) zero x = refl
get_or-grown [] (suc n) (suc p) x = get_or-grown [] n p x
get_or-grown (y ∷ ys) n zero x = refl
get_or-grown (y ∷ ys) n (suc p) x = get_or-grown ys n p x

pub adds_grown : {X : Type 0} (R : List Val → X → Type 0) (none : X) (qs : List ℕ) (vs : List Val) (old new : List X) (n : ℕ) → Adds R none qs vs (old ++ replicate n none) new → Adds R none qs vs old new
adds_grown R none qs vs old new n h = λ before p r. h before p (subst (R before) (sym (get_or-grown old n p none)) r)

pub map-replicate : {X Y : Type 0} (f : X → Y) (n : ℕ) (x : X) → map f (replicate n x) ≡ replicate n (f x)
map-replicate f zero x = refl
map-replicate f (suc n) x = ap (λ ys. f x ∷ ys) (map-replicate f n x)

-- ---- values that are there
pub there_push : (vs : List Val) (v : Val) (b : Bool) → is_null v ≡ b → there (vs ++ v ∷ []) ≡ there vs ++ cond b [] (v ∷ [])
there_push vs v b e = filter-append (λ u. not (is_null u)) vs (v ∷ []) ∙ ap (λ us. there vs ++ us) (one v b e)
  where
    one : (u : Val) (c : Bool) → is_null u ≡ c → filter (λ w. not (is_null w)) (u ∷ []) ≡ cond c [] (u ∷ [])
    one u true f = rw f refl
    one u false f = rw f refl

pub there_more : (vs : List Val) (v : Val) → is_null v ≡ false → there (vs ++ v ∷ []) ≡ there vs ++ v ∷ []
there_more vs v e = there_push vs v false e

pub there_same : (vs : List Val) (v : Val) → is_null v ≡ true → there (vs ++ v ∷ []) ≡ there vs
there_same vs v e = there_push vs v true e ∙ append-nil (there vs)

not_true : (b : Bool) → not b ≡ true → b ≡ false
not_true true h = absurd (let z : false ≡ true = h in cc)
not_true false h = refl

pub none_there : (vs : List Val) → NoneNull (there vs)
none_there vs = All-weaker (λ v. not (is_null v) ≡ true) (λ v. is_null v ≡ false) (λ v. not_true (is_null v)) (there vs) (filter_passes (λ v. not (is_null v)) vs)

-- ---- one more value, for each measure
pub count_push : (n x : ℕ) (v : Val) → x ≡ n + 1 → (us : List Val) → IsCount us n → IsCount (us ++ v ∷ []) x
count_push n x v e us h = e ∙ ap (λ k. k + 1) h ∙ sym (length_push us v)

pub count_of_push : (n x : ℕ) (v : Val) (b : Bool) → b ≡ is_null v → x ≡ cond b n (n + 1) → (us : List Val) → IsCountOf us n → IsCountOf (us ++ v ∷ []) x
count_of_push n x v true e f us h = f ∙ h ∙ ap length (sym (there_same us v (sym e)))
count_of_push n x v false e f us h = f ∙ ap (λ k. k + 1) h ∙ sym (length_push (there us) v) ∙ ap length (sym (there_more us v (sym e)))

pub number_push : (s t : Sum) (z : ℤ) → ((us : List Val) → IsSum s us → IsSum t (us ++ int_val z ∷ [])) → (us : List Val) → IsSumOf us s → IsSumOf (us ++ int_val z ∷ []) t
number_push s t z more us h = subst (IsSum t) (sym (there_more us (int_val z) refl)) (more (there us) h)

pub sum_same : (s : Sum) (v : Val) → is_null v ≡ true → (us : List Val) → IsSumOf us s → IsSumOf (us ++ v ∷ []) s
sum_same s v e us h = subst (IsSum s) (sym (there_same us v e)) h

pub sum_push : (s t : Sum) (v : Val) → is_null v ≡ false → ((us : List Val) → IsSum s us → IsSum t (us ++ int_val (number_of v) ∷ [])) → (us : List Val) → IsSumOf us s → IsSumOf (us ++ v ∷ []) t
sum_push s t v e more us h = subst (IsSum t) (sym (there_more us v e)) (sum_as t (there us) v (more (there us) h))

pub least_same : (u v : Val) → is_null v ≡ true → (us : List Val) → IsLeastOf us u → IsLeastOf (us ++ v ∷ []) u
least_same u v e us h = subst (λ ws. OrNull IsLeast ws u) (sym (there_same us v e)) h

pub least_push : (r : Result Value NoMemory) (u v : Val) → is_null v ≡ false → ((us : List Val) → NoneNull us → OrNull IsLeast us u → IfOk r (λ w. OrNull IsLeast (us ++ v ∷ []) (val_of w)))
    → (us : List Val) → IsLeastOf us u → IfOk r (λ w. IsLeastOf (us ++ v ∷ []) (val_of w))
least_push (Ok w) u v e more us h = subst (λ ws. OrNull IsLeast ws (val_of w)) (sym (there_more us v e)) (more (there us) (none_there us) h)
least_push (Err x) u v e more us h = tt

pub greatest_same : (u v : Val) → is_null v ≡ true → (us : List Val) → IsGreatestOf us u → IsGreatestOf (us ++ v ∷ []) u
greatest_same u v e us h = subst (λ ws. OrNull IsGreatest ws u) (sym (there_same us v e)) h

pub greatest_push : (r : Result Value NoMemory) (u v : Val) → is_null v ≡ false → ((us : List Val) → NoneNull us → OrNull IsGreatest us u → IfOk r (λ w. OrNull IsGreatest (us ++ v ∷ []) (val_of w)))
    → (us : List Val) → IsGreatestOf us u → IfOk r (λ w. IsGreatestOf (us ++ v ∷ []) (val_of w))
greatest_push (Ok w) u v e more us h = subst (λ ws. OrNull IsGreatest ws (val_of w)) (sym (there_more us v e)) (more (there us) (none_there us) h)
greatest_push (Err x) u v e more us h = tt

pub sum_push_ok : (r : Result Sum NoMemory) (s : Sum) (v : Val) → is_null v ≡ false → ((us : List Val) → IsSum s us → IfOk r (λ t. IsSum t (us ++ int_val (number_of v) ∷ []))) → (us : List Val) → IsSumOf us s
    → IfOk r (λ t. IsSumOf (us ++ v ∷ []) t)
sum_push_ok (Ok t) s v e more us h = subst (IsSum t) (sym (there_more us v e)) (sum_as t (there us) v (more (there us) h))
sum_push_ok (Err x) s v e more us h = tt

-- ---- a tally with further rows
pub longer : {X : Type 0} (xs : List X) (len n : ℕ) (x : X) → length xs ≤ n → len ≤ n → length (xs ++ replicate (len - length xs) x) ≤ n
longer xs len n x h k = let e = length-append xs (replicate (len - length xs) x) in let f = length-replicate (len - length xs) x in omega (arith, e, f, h, k)

pub enough : {X : Type 0} (xs ys : List X) (len : ℕ) (x : X) (places : List ℕ) → ys ≡ xs ++ replicate (len - length xs) x → All (λ p. p < len) places → All (λ p. p < length ys) places
enough xs ys len x places e h =
    let f = length-append xs (replicate (len - length xs) x) in let g = length-replicate (len - length xs) x in let l : length ys ≡ length (xs ++ replicate (len - length xs) x) = ap length e in
    All-weaker (λ p. p < len) (λ p. p < length ys) (λ p lt. omega (arith, f, g, l, lt)) places h

-- ---- the first place past all
pub past_push : (ps : List ℕ) (p last next : ℕ) → last ≤ next → p < next → All (λ q. q < last) ps → All (λ q. q < next) (ps ++ p ∷ [])
past_push ps p last next le lt h = All-push (λ q. q < next) ps p (All-weaker (λ q. q < last) (λ q. q < next) (λ q l. omega (arith, l, le)) ps h) lt

pub last_push : (ps : List ℕ) (p last next : ℕ) → last ≤ next → p ≤ next → All (λ q. q ≤ last) ps → All (λ q. q ≤ next) (ps ++ p ∷ [])
last_push ps p last next le lt h = All-push (λ q. q ≤ next) ps p (All-weaker (λ q. q ≤ last) (λ q. q ≤ next) (λ q l. omega (arith, l, le)) ps h) lt

pub larger_below : (a b larger n : ℕ) → 0 < n → ((k : ℕ) → a ≤ k → b ≤ k → larger ≤ k) → a < n → b < n → larger < n
larger_below a b larger n more least l m = let k = least (n - 1) (omega (arith, l)) (omega (arith, m)) in omega (arith, k, more)

pub none_below : (ps : List ℕ) (n : ℕ) → length ps ≡ 0 → All (λ p. p < n) ps
none_below ps n e = λ j d lt. absurd (omega (arith, lt, e))

pub all_below : (ps : List ℕ) (last end : ℕ) → end ≡ last + 1 → All (λ p. p ≤ last) ps → All (λ p. p < end) ps
all_below ps last end e h = All-weaker (λ p. p ≤ last) (λ p. p < end) (λ p l. omega (arith, l, e)) ps h

-- where there is a place, what is past all is not the first one
pub some_below : (ps : List ℕ) (n : ℕ) → 0 < length ps → All (λ p. p < n) ps → 0 < n
some_below ps n lt h = let l = h 0 0 lt in omega (arith, l)

-- ---- a vector that has grown
pub resized : {X : Type 0} (xs ys : List X) (n len all : ℕ) (x : X) → n ≡ length xs → n ≤ all → len ≤ all → ((k : ℕ) → n ≤ k → len ≤ k → all ≤ k) → ys ≡ take all xs ++ replicate (all - n) x → ys ≡ xs ++ replicate (len - length xs) x
resized xs ys n len all x e a b least h =
    h ∙ ap (λ zs. zs ++ replicate (all - n) x) (take_all all xs (omega (arith, e, a))) ∙ ap (λ k. xs ++ replicate k x) (count (less_or_not n len))
  where
    count : (n < len) ⊎ (len ≤ n) → all - n ≡ len - length xs
    count (inl l) = let m = least len (omega (arith, l)) (omega arith) in omega (arith, e, m, b)
    count (inr l) = let m = least n (omega arith) l in omega (arith, e, m, l)

pub past_start : (n len i : ℕ) → ((k : ℕ) → n ≤ k → len ≤ k → i ≤ k) → len ≤ i → i - n ≡ len - n
past_start n len i most le = go (less_or_not n len)
  where
    go : (n < len) ⊎ (len ≤ n) → i - n ≡ len - n
    go (inl l) = let m = most len (omega (arith, l)) (omega arith) in omega (arith, m, le)
    go (inr l) = let m = most n (omega arith) l in omega (arith, m, l)
