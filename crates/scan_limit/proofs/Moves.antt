-- Each step keeps the balance.
use Rattle.std.proofs.Common.{◌≡◌, ℕ, zero, suc, ◌+◌, ◌%◌, ◌^◌, ◌<◌, ◌≤◌, min, List, [], ◌∷◌, ◌++◌, get_or, set, refl, sym, ap, ◌∙◌, subst, arith, length-set, get_or-set_same}
use mathlib.Core.Option.{Option, none, some, some-injective, some-ne-none}
use lib.ListN.{get_elem?}
use Rattle.atomic_table.specs.Table.{State, Me, step, keeps, Allows, Splits, Joins, opening, Final, Seen}
use Rattle.atomic_table.proofs.Lists.{set_again, set_else}
use Rattle.scan_limit.specs.declared.budget.Account.{Account}
use Rattle.scan_limit.specs.Budget.{most, grant_of, first_account, spent, with_claim, with_less_room, with_room, both_accounts, total, EachWithin, IsBalanced, Finds, Claims, Looks}

total-set : (f : Account → ℕ) (vs : List Account) (i : ℕ) (v w : Account) → get_elem? vs i ≡ some v → total f (set vs i w) + f v ≡ total f vs + f w
total-set f [] i v w e = absurd (some-ne-none v (sym e))
total-set f (x ∷ xs) zero v w e = let is : f x ≡ f v = ap f (some-injective x v e) in omega arith
total-set f (x ∷ xs) (suc i) v w e = let r = total-set f xs i v w e in omega arith

total-snoc : (f : Account → ℕ) (vs : List Account) (w : Account) → total f (vs ++ w ∷ []) ≡ total f vs + f w
total-snoc f [] w = omega arith
total-snoc f (x ∷ xs) w = let r = total-snoc f xs w in omega arith

total-at : (f : Account → ℕ) (vs : List Account) (i : ℕ) (v : Account) → get_elem? vs i ≡ some v → f v ≤ total f vs
total-at f [] i v e = absurd (some-ne-none v (sym e))
total-at f (x ∷ xs) zero v e = let is : f x ≡ f v = ap f (some-injective x v e) in omega arith
total-at f (x ∷ xs) (suc i) v e = let r = total-at f xs i v e in omega arith

within-set : (vs : List Account) (i : ℕ) (w : Account) → EachWithin vs → w.granted ≤ w.claimed → EachWithin (set vs i w)
within-set [] i w h k = tt
within-set (x ∷ xs) zero w h k = (k, h.1)
within-set (x ∷ xs) (suc i) w h k = (h.0, within-set xs i w h.1 k)

within-snoc : (vs : List Account) (w : Account) → EachWithin vs → w.granted ≤ w.claimed → EachWithin (vs ++ w ∷ [])
within-snoc [] w h k = (k, tt)
within-snoc (x ∷ xs) w h k = (h.0, within-snoc xs w h.1 k)

within-at : (vs : List Account) (i : ℕ) (v : Account) → EachWithin vs → get_elem? vs i ≡ some v → v.granted ≤ v.claimed
within-at [] i v h e = absurd (some-ne-none v (sym e))
within-at (x ∷ xs) zero v h e = subst (λ (u : Account). u.granted ≤ u.claimed) (some-injective x v e) h.0
within-at (x ∷ xs) (suc i) v h e = within-at xs i v h.1 e

-- all grants are within all claims
within-total : (vs : List Account) → EachWithin vs → total (λ v. v.granted) vs ≤ total (λ v. v.claimed) vs
within-total [] h = omega arith
within-total (x ∷ xs) h = let r = within-total xs h.1 in let k = h.0 in omega arith

-- the new first state
pub begins : (limit : ℕ) → IsBalanced limit (opening (0 ∷ []) [] (first_account limit))
begins limit = record { one = refl; fits = omega arith; claims = refl; grants = omega arith; within = (omega arith, tt) }

-- what a seat claimed is in the word, and what it may still claim fits beside it
bounds : (limit : ℕ) (s : State (Unit {0}) Account) (id : ℕ) (v : Account) → IsBalanced limit s → get_elem? s.views id ≡ some v → (v.claimed ≤ get_or s.words 0 0) × (get_or s.words 0 0 + v.room ≤ most)
bounds limit s id v h at =
    let c = total-at (λ u. u.claimed) s.views id v at in
    let r = total-at (λ u. u.room) s.views id v at in
    let fits = h.fits in
    let claims = h.claims in
    (omega arith, omega arith)

-- where a seat was granted less than it claimed, the limit is reached
reached : (limit : ℕ) (s : State (Unit {0}) Account) (id : ℕ) (v : Account) → IsBalanced limit s → get_elem? s.views id ≡ some v → v.granted < v.claimed → limit ≤ get_or s.words 0 0
reached limit s id v h at short =
    let granted = total-set (λ a. a.granted) s.views id v spent at in
    let claimed = total-set (λ a. a.claimed) s.views id v spent at in
    let rest = within-total (set s.views id spent) (within-set s.views id spent h.within (omega arith)) in
    let sums = h.claims in
    let shares = h.grants in
    omega arith

finds : (limit : ℕ) (s : State (Unit {0}) Account) (id : ℕ) (v : Account) → IsBalanced limit s → get_elem? s.views id ≡ some v → v.limit ≡ limit → Finds v (get_or s.words 0 0)
finds limit s id v h at is =
    let found = bounds limit s id v h at in
    (found.0, found.1, within-at s.views id v h.within at, λ short. subst (λ l. l ≤ get_or s.words 0 0) (sym is) (reached limit s id v h at short))

-- a claim within the seat's room keeps the balance
pub claim_keeps : (limit : ℕ) (s : State (Unit {0}) Account) (id n y : ℕ) (v : Account) (homes : List (Option (Unit {0}))) → IsBalanced limit s → get_elem? s.views id ≡ some v → n ≤ v.room → y ≡ get_or s.words 0 0 + n
    → IsBalanced limit record { words = set s.words 0 y; homes = homes; views = set s.views id (with_claim n (grant_of limit (get_or s.words 0 0) n) v) }
claim_keeps limit s id n y v homes h at room sum =
    let x : ℕ = get_or s.words 0 0 in
    let w : Account = with_claim n (grant_of limit x n) v in
    let rooms = total-set (λ u. u.room) s.views id v w at in
    let claimed = total-set (λ u. u.claimed) s.views id v w at in
    let granted = total-set (λ u. u.granted) s.views id v w at in
    let one = h.one in
    let fits = h.fits in
    let sums = h.claims in
    let shares = h.grants in
    let mine = within-at s.views id v h.within at in
    let word : get_or (set s.words 0 y) 0 0 ≡ y = get_or-set_same s.words 0 y 0 (omega arith) in
    record {
      one = length-set s.words 0 y ∙ h.one;
      fits = omega arith;
      claims = omega arith;
      grants = omega arith;
      within = within-set s.views id w h.within (omega arith);
    }

pub claims : (limit slots id n : ℕ) (me : Me (Unit {0}) Account) → me.0.limit ≡ limit → n ≤ me.0.room → Allows (IsBalanced limit) slots id me 0 (λ x. (x + n) % 2 ^ 64) (Claims (step slots 0 n 0 none) me)
claims limit slots id n me is room s h _ at small =
    let x : ℕ = get_or s.words 0 0 in
    let v : Account = me.0 in
    let found = finds limit s id v h at is in
    let rooms = total-at (λ u. u.room) s.views id v at in
    let fits = h.fits in
    let y : ℕ = (x + n) % 2 ^ 64 in
    let sum : y ≡ x + n = omega arith in
    let Kept : ℕ → Type 0 = λ l. IsBalanced limit record { words = set s.words 0 y; homes = s.homes; views = set s.views id (with_claim n (grant_of l x n) v) } in
    (with_claim n (grant_of v.limit x n) v, keeps, tt, subst Kept (sym is) (claim_keeps limit s id n y v s.homes h at room sum), (refl, found))

pub looks : (limit slots id : ℕ) (me : Me (Unit {0}) Account) → me.0.limit ≡ limit → Allows (IsBalanced limit) slots id me 0 (λ x. x) (Looks (step slots 0 0 0 none) me)
looks limit slots id me is s h _ at small =
    let x : ℕ = get_or s.words 0 0 in
    let v : Account = me.0 in
    let found = finds limit s id v h at is in
    let one = h.one in
    let word : get_or (set s.words 0 x) 0 0 ≡ x = get_or-set_same s.words 0 x 0 (omega arith) in
    let same = set_again s.views id v at in (
      v,
      keeps,
      tt,
      record {
        one = length-set s.words 0 x ∙ h.one;
        fits = subst (λ (p : ℕ × List Account). p.0 + total (λ u. u.room) p.1 ≤ most) (λ i. (sym word i, sym same i)) h.fits;
        claims = ap (total (λ u. u.claimed)) same ∙ h.claims ∙ sym word;
        grants = ap (total (λ u. u.granted)) same ∙ h.grants ∙ sym (ap (min limit) word);
        within = subst EachWithin (sym same) h.within;
      },
      (refl, found),
    )

pub splits : (limit id n : ℕ) (v : Account) → n ≤ v.room → Splits (IsBalanced limit) id v (with_less_room n v) (with_room n v)
splits limit id n v room s h at =
    let w : Account = with_less_room n v in
    let u : Account = with_room n v in
    let rooms = total-set (λ a. a.room) s.views id v w at in
    let rooms' = total-snoc (λ a. a.room) (set s.views id w) u in
    let claimed = total-set (λ a. a.claimed) s.views id v w at in
    let claimed' = total-snoc (λ a. a.claimed) (set s.views id w) u in
    let granted = total-set (λ a. a.granted) s.views id v w at in
    let granted' = total-snoc (λ a. a.granted) (set s.views id w) u in
    let fits = h.fits in
    let sums = h.claims in
    let shares = h.grants in
    let mine = within-at s.views id v h.within at in
    record {
      one = h.one;
      fits = omega arith;
      claims = omega arith;
      grants = omega arith;
      within = within-snoc (set s.views id w) u (within-set s.views id w h.within mine) (omega arith);
    }

pub joins : (limit id other : ℕ) (v w : Account) → Joins (IsBalanced limit) id v other w (both_accounts v w) spent
joins limit id other v w s h at apart there =
    let b : Account = both_accounts v w in
    let vs : List Account = set s.views id b in
    let rooms = total-set (λ a. a.room) s.views id v b at in
    let rooms' = total-set (λ a. a.room) vs other w spent there in
    let claimed = total-set (λ a. a.claimed) s.views id v b at in
    let claimed' = total-set (λ a. a.claimed) vs other w spent there in
    let granted = total-set (λ a. a.granted) s.views id v b at in
    let granted' = total-set (λ a. a.granted) vs other w spent there in
    let fits = h.fits in
    let sums = h.claims in
    let shares = h.grants in
    let mine = within-at s.views id v h.within at in
    let theirs = within-at s.views other w h.within (sym (set_else s.views id other b apart) ∙ there) in
    record {
      one = h.one;
      fits = omega arith;
      claims = omega arith;
      grants = omega arith;
      within = within-set vs other spent (within-set s.views id b h.within (omega arith)) (omega arith);
    }

-- a seat whose room and claims are all that there is has all claims and all grants
pub has_all : (limit id : ℕ) (v : Account) (s : State (Unit {0}) Account) → IsBalanced limit s → get_elem? s.views id ≡ some v → v.room + v.claimed ≡ most
    → (v.claimed ≡ get_or s.words 0 0) × (v.granted ≡ min limit (get_or s.words 0 0))
has_all limit id v s h at whole =
    let found = bounds limit s id v h at in
    let low = found.0 in
    let high = found.1 in
    let granted = total-set (λ a. a.granted) s.views id v spent at in
    let claimed = total-set (λ a. a.claimed) s.views id v spent at in
    let rest = within-total (set s.views id spent) (within-set s.views id spent h.within (omega arith)) in
    let sums = h.claims in
    let shares = h.grants in
    (omega arith, omega arith)

first_word : (ws : List ℕ) (x : ℕ) → get_elem? ws 0 ≡ some x → get_or ws 0 0 ≡ x
first_word [] x e = absurd (some-ne-none x (sym e))
first_word (y ∷ ys) x e = some-injective y x e

pub closes : (limit id : ℕ) (v : Account) (words : List ℕ) (slots : List (Unit {0})) (x : ℕ) → v.room + v.claimed ≡ most → Final (Seen (IsBalanced limit) id v) words slots → get_elem? words 0 ≡ some x
    → (x ≡ v.claimed) × (v.granted ≡ min limit x)
closes limit id v words slots x whole f first =
    let s = f.0 in
    let all = has_all limit id v s f.1.0 f.1.1 whole in
    let word : get_or s.words 0 0 ≡ x = first_word s.words x (subst (λ ws. get_elem? ws 0 ≡ some x) (sym f.2) first) in
    (sym word ∙ sym all.0, all.1 ∙ ap (min limit) word)
