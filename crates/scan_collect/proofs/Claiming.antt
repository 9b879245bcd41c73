-- What a stream claimed of its limit, and what it gave.
use Rattle.std.proofs.Common.{◌≡◌, ◌≤◌, ◌<◌, ◌+◌, ◌-◌, ◌||◌, min, ℕ, Bool, true, false, nat_le, nat_lt, List, [], ◌++◌, length, take, Option, None, Some, inl, inr, refl, sym, ap, subst, ◌∙◌, length-append, arith}
use Rattle.std.specs.Prelude.{◌⊎◌}
use Rattle.std.proofs.lemmas.Bool.Decides.{nat_tests}
use Rattle.scan_values.specs.Marked.{Marked}
use Rattle.scan_limit.specs.Budget.{most, grant_of}
use Rattle.scan_limit.specs.Seats.{Budget, SeatState}
use Rattle.scan_streams.specs.Grants.{Claimed, Grants, is_spent}
use Rattle.scan_core.specs.Streaming.{first_of}
use Rattle.scan_collect.specs.Reads.{IsAlone, IsFull, limit_in}
use Rattle.scan_collect.proofs.Joining.{length_first, take_both, take_enough, take_none, take_up, take_whole}

-- of all that was got, what was claimed through a seat and what was given, where nobody else claims
pub record Ran (z t : SeatState) (got values : List Marked) : Type 0 where
  pub budget : t.budget ≡ z.budget
  pub claimed : t.claimed ≡ length got
  pub room : t.room + t.claimed ≡ most
  pub granted : t.granted ≡ length values
  pub given : values ≡ take (z.budget).limit got

-- the same where the seat may lack: then all is given
abbrev pub Claims : Option SeatState → Option SeatState → List Marked → List Marked → Type 0
Claims None o got values = (o ≡ None) × (values ≡ got)
Claims (Some z) o got values = (t : SeatState) × (o ≡ Some t) × Ran z t got values

pub claims_none : (z : Option SeatState) (n : ℕ) → IsAlone z n → Claims z z [] []
claims_none None n a = (refl, refl)
claims_none (Some z) n a = (
  z,
  refl,
  record {
    budget = refl;
    claimed = ap (λ (w : SeatState). w.claimed) a.0;
    room = let e : z.room ≡ most = ap (λ (w : SeatState). w.room) a.0 in let f : z.claimed ≡ 0 = ap (λ (w : SeatState). w.claimed) a.0 in omega (arith, e, f);
    granted = ap (λ (w : SeatState). w.granted) a.0;
    given = sym (take_none (z.budget).limit);
  },
)

ran_more : (z t u : SeatState) (got values xs : List Marked) (rows n : ℕ) → n ≤ most → length got + length xs ≤ n → Ran z t got values → Claimed (length xs) rows t u → Ran z u (got ++ xs) (values ++ take rows xs)
ran_more z t u got values xs rows n most_is few r k =
    let limit : (t.budget).limit ≡ (z.budget).limit = ap (λ (b : Budget). b.limit) r.budget in
    let claimed : t.claimed ≡ length got = r.claimed in
    let now_claimed : u.claimed ≡ t.claimed + length xs = ap (λ (w : SeatState). w.claimed) k.seat in
    let now_room : u.room ≡ t.room - length xs = ap (λ (w : SeatState). w.room) k.seat in
    let now_granted : u.granted ≡ t.granted + rows = ap (λ (w : SeatState). w.granted) k.seat in
    let granted : rows ≡ grant_of (t.budget).limit t.claimed (length xs) = k.alone r.room in
    let part : rows ≡ min (length xs) ((z.budget).limit - length got) = omega (arith, granted, limit, claimed) in
    let both = length-append got xs in
    let both_values = length-append values (take rows xs) in
    let few_rows = length_first rows xs in
    let room_was = r.room in
    let granted_was = r.granted in
    record {
      budget = ap (λ (w : SeatState). w.budget) k.seat ∙ r.budget;
      claimed = omega (arith, now_claimed, claimed, both);
      room = omega (arith, now_claimed, now_room, claimed, room_was, few, most_is);
      granted = omega (arith, now_granted, granted_was, both_values, few_rows, part);
      given = ap (λ (ys : List Marked). ys ++ take rows xs) r.given
          ∙ ap (λ (m : ℕ). take (z.budget).limit got ++ take m xs) part
          ∙ ap (λ (ys : List Marked). take (z.budget).limit got ++ ys) (take_up ((z.budget).limit - length got) xs)
          ∙ sym (take_both (z.budget).limit got xs);
    }

-- one array more was claimed, and so many of its rows given
pub claims_more : (z o p : Option SeatState) (got values xs : List Marked) (rows n : ℕ) → IsAlone z n → length got + length xs ≤ n → Claims z o got values → Grants o (length xs) rows p → Claims z p (got ++ xs) (values ++ take rows xs)
claims_more None o p got values xs rows n a few c g =
    let h : Grants None (length xs) rows p = subst (λ (q : Option SeatState). Grants q (length xs) rows p) c.0 g in
    (h.1, ap (λ (m : ℕ). values ++ take m xs) h.0 ∙ ap (λ (ys : List Marked). values ++ ys) (take_whole xs) ∙ ap (λ (ys : List Marked). ys ++ xs) c.1)
claims_more (Some z) o p got values xs rows n a few c g =
    let h : Grants (Some c.0) (length xs) rows p = subst (λ (q : Option SeatState). Grants q (length xs) rows p) c.1 g in
    (h.0, h.1, ran_more z c.0 h.0 got values xs rows n a.1 few c.2 h.2)

-- ---- a limit that is reached
spent_is : (l g c : ℕ) → (nat_le l g || nat_lt g c) ≡ true → (l ≤ g) ⊎ (g < c)
spent_is l g c e = go (nat_le l g) refl e
  where
    go : (b : Bool) → nat_le l g ≡ b → (b || nat_lt g c) ≡ true → (l ≤ g) ⊎ (g < c)
    go true f h = inl (grind (arith, nat_tests, f))
    go false f h = inr (grind (arith, nat_tests, h))

spent_by : (l g c : ℕ) → (l ≤ g) ⊎ (g < c) → (nat_le l g || nat_lt g c) ≡ true
spent_by l g c h = go (nat_le l g) refl h
  where
    go : (b : Bool) → nat_le l g ≡ b → (l ≤ g) ⊎ (g < c) → (b || nat_lt g c) ≡ true
    go true f k = refl
    go false f (inl k) = absurd (grind (arith, nat_tests, f, k))
    go false f (inr k) = grind (arith, nat_tests, k)

-- what is reached stays so
pub spent_on : (o p : Option SeatState) (n rows : ℕ) → Grants o n rows p → is_spent o ≡ true → is_spent p ≡ true
spent_on None p n rows g h = absurd cc
spent_on (Some t) p n rows g h =
    let k = g.2 in
    let few : rows ≤ n = let m = k.at_most in omega (arith, m) in
    let limit : ((g.0).budget).limit ≡ (t.budget).limit = ap (λ (w : SeatState). (w.budget).limit) k.seat in
    let claimed : (g.0).claimed ≡ t.claimed + n = ap (λ (w : SeatState). w.claimed) k.seat in
    let granted : (g.0).granted ≡ t.granted + rows = ap (λ (w : SeatState). w.granted) k.seat in
    ap is_spent g.1 ∙ spent_by ((g.0).budget).limit (g.0).granted (g.0).claimed (go few limit claimed granted (spent_is (t.budget).limit t.granted t.claimed h))
  where
    go : rows ≤ n → ((g.0).budget).limit ≡ (t.budget).limit → (g.0).claimed ≡ t.claimed + n → (g.0).granted ≡ t.granted + rows
        → ((t.budget).limit ≤ t.granted) ⊎ (t.granted < t.claimed) → (((g.0).budget).limit ≤ (g.0).granted) ⊎ ((g.0).granted < (g.0).claimed)
    go few l c d (inl k) = inl (omega (arith, l, d, k))
    go few l c d (inr k) = inr (omega (arith, few, c, d, k))

-- as many rows were got as a limit allows
abbrev pub AreEnough : Option SeatState → List Marked → Type 0
AreEnough None got = ⊥
AreEnough (Some z) got = (z.budget).limit ≤ length got

pub spent_enough : (z o : Option SeatState) (got values : List Marked) → Claims z o got values → is_spent o ≡ true → AreEnough z got
spent_enough None o got values c h = let e : is_spent o ≡ false = ap is_spent c.0 in absurd cc
spent_enough (Some z) o got values c h =
    let t = c.0 in
    let r = c.2 in
    let limit : (t.budget).limit ≡ (z.budget).limit = ap (λ (b : Budget). b.limit) r.budget in
    let long = length_first (z.budget).limit got in
    let given = ap length r.given in
    let claimed = r.claimed in
    let granted = r.granted in
    go limit (sym (granted ∙ given ∙ long)) claimed (spent_is (t.budget).limit t.granted t.claimed (sym (ap is_spent c.1) ∙ h))
  where
    go : ((c.0).budget).limit ≡ (z.budget).limit → min (z.budget).limit (length got) ≡ (c.0).granted → (c.0).claimed ≡ length got
        → (((c.0).budget).limit ≤ (c.0).granted) ⊎ ((c.0).granted < (c.0).claimed) → (z.budget).limit ≤ length got
    go l g k (inl m) = omega (arith, l, g, k, m)
    go l g k (inr m) = omega (arith, l, g, k, m)

-- so it is where nothing of an array is granted
pub none_enough : (z o p : Option SeatState) (got values : List Marked) (n : ℕ) → 0 < n → Claims z o got values → Grants o n 0 p → AreEnough z got
none_enough None o p got values n some c g =
    let h : Grants None n 0 p = subst (λ (q : Option SeatState). Grants q n 0 p) c.0 g in
    let e = h.0 in absurd (omega (arith, e, some))
none_enough (Some z) o p got values n some c g =
    let h : Grants (Some c.0) n 0 p = subst (λ (q : Option SeatState). Grants q n 0 p) c.1 g in
    let r = c.2 in
    let granted = (h.2).alone r.room in
    let limit : ((c.0).budget).limit ≡ (z.budget).limit = ap (λ (b : Budget). b.limit) r.budget in
    let claimed = r.claimed in
    omega (arith, granted, limit, claimed, some)

-- then they are the first of whatever comes behind
pub enough_full : (z o : Option SeatState) (got values : List Marked) → Claims z o got values → AreEnough z got → IsFull (limit_in z) (length values)
enough_full None o got values c h = h
enough_full (Some z) o got values c h =
    let given = ap length (c.2).given in
    let long = length_first (z.budget).limit got in
    omega (arith, given, long, h)

pub enough_first : (z o : Option SeatState) (got values more : List Marked) → Claims z o got values → AreEnough z got → values ≡ first_of (limit_in z) (got ++ more)
enough_first None o got values more c h = absurd h
enough_first (Some z) o got values more c h = (c.2).given ∙ take_enough (z.budget).limit got more h

-- and else of all
pub claims_first : (z o : Option SeatState) (got values : List Marked) → Claims z o got values → values ≡ first_of (limit_in z) got
claims_first None o got values c = c.1
claims_first (Some z) o got values c = (c.2).given
