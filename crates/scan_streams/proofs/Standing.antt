-- What is true between two steps stays true.
use Rattle.std.proofs.Common.{◌≡◌, ℕ, suc, zero, ◌+◌, ◌<◌, ◌≤◌, List, [], ◌∷◌, ◌++◌, length, set, map, Bool, true, false, nat_lt, Option, inl, inr, refl, sym, ap, ◌∙◌, subst, arith, length-set, append-nil}
use Rattle.std.specs.Prelude.{◌⊎◌, if◌then◌else◌}
use Rattle.std.specs.List.{flat_map}
use Rattle.std.proofs.lemmas.Bool.Decides.{nat_tests}
use Rattle.std.proofs.lemmas.List.{nil_from_length}
use Rattle.scan_segments.specs.Source.{Store}
use Rattle.scan_values.specs.Arrays.{ArrayData}
use Rattle.scan_values.specs.Selections.{is_among}
use Rattle.scan_plans.specs.Futures.{FutureData}
use Rattle.scan_streams.specs.Desks.{Waiters, waits}
use Rattle.scan_streams.specs.Looks.{Looked, EachGoes}
use Rattle.scan_streams.specs.Readings.{ring, splits_in, Linked, ListsDone, Packed, IsFull, Standing, AllStarted, Starts, next_slot, later, news_of, turn_after}
use Rattle.scan_streams.specs.Slots.{slot_at, slot_split, slot_waits, is_empty, is_done, is_fresh, HasNews}
use Rattle.scan_streams.specs.Splits.{new_split}
use Rattle.scan_streams.specs.declared.reading.Reading.{Reading}
use Rattle.scan_streams.specs.declared.slot.Slot.{Slot}
use Rattle.scan_streams.specs.declared.slot.Slot.TheVariants as slot
use Rattle.scan_streams.proofs.Handing.{le_or_lt}
use Rattle.scan_streams.proofs.Packing.{looked_length, looked_empty, looked_news, empties_same, full_same, given_links, given_news, given_lists, given_full, given_packed, idle_empty, ring_empty, slots_empty, ring_none}
use Rattle.scan_streams.proofs.Ringing.{done_within}

-- the same of the parts of a reading
pub record Stands (ordered : Bool) (head : ℕ) (slots : List Slot) (queue : List FutureData) (news done : List ℕ) (desk : Waiters) : Type 0 where
  pub links : Linked desk slots
  pub has : HasNews slots news
  pub lists : ListsDone ordered slots done
  pub turn : 0 < length slots → head < length slots
  pub full : IsFull slots queue
  pub packed : ordered ≡ true → Packed (ring head (map is_empty slots))
  pub still : ordered ≡ false → head ≡ 0

-- the parts of a reading are these
pub record Parts (r : Reading) (o : Bool) (k : ℕ) (xs : List Slot) (fs : List FutureData) (ns ds : List ℕ) (w : Waiters) : Type 0 where
  pub ordered : r.ordered ≡ o
  pub head : r.head ≡ k
  pub slots : r.slots.items ≡ xs
  pub queue : r.queue ≡ fs
  pub news : r.news.items ≡ ns
  pub done : r.done.items ≡ ds
  pub desk : r.desk ≡ w

pub stands_of : (r : Reading) → Standing r → Stands r.ordered r.head r.slots.items r.queue r.news.items r.done.items r.desk
stands_of r h = record { links = h.links; has = h.news; lists = h.done; turn = h.turn; full = h.full; packed = h.packed; still = h.still }

pub standing : (r : Reading) (o : Bool) (k : ℕ) (xs : List Slot) (fs : List FutureData) (ns ds : List ℕ) (w : Waiters) → Parts r o k xs fs ns ds w → Stands o k xs fs ns ds w → Standing r
standing r o k xs fs ns ds w e h = record {
  links = subst (λ (z : Waiters × List Slot). Linked z.0 z.1) (λ i. (sym e.desk i, sym e.slots i)) h.links;
  news = subst (λ (z : List Slot × List ℕ). HasNews z.0 z.1) (λ i. (sym e.slots i, sym e.news i)) h.has;
  done = subst (λ (z : Bool × (List Slot × List ℕ)). ListsDone z.0 z.1.0 z.1.1) (λ i. (sym e.ordered i, (sym e.slots i, sym e.done i))) h.lists;
  turn = subst (λ (z : ℕ × List Slot). 0 < length z.1 → z.0 < length z.1) (λ i. (sym e.head i, sym e.slots i)) h.turn;
  full = subst (λ (z : List Slot × List FutureData). IsFull z.0 z.1) (λ i. (sym e.slots i, sym e.queue i)) h.full;
  packed = subst (λ (z : Bool × (ℕ × List Slot)). z.0 ≡ true → Packed (ring z.1.0 (map is_empty z.1.1))) (λ i. (sym e.ordered i, (sym e.head i, sym e.slots i))) h.packed;
  still = subst (λ (z : Bool × ℕ). z.0 ≡ false → z.1 ≡ 0) (λ i. (sym e.ordered i, sym e.head i)) h.still;
}

-- a look at a slot that has news
pub stands_look : (o : Bool) (k p : ℕ) (xs ys : List Slot) (fs : List FutureData) (ns ds es : List ℕ) (v w : Waiters) (holds : Option Store) → Stands o k xs fs (p ∷ ns) ds v → Looked holds p xs ys → Linked w ys → ListsDone o ys es → Stands o k ys fs ns es w
stands_look o k p xs ys fs ns ds es v w holds h l links lists = record {
  links = links;
  has = looked_news holds p xs ys ns l h.has;
  lists = lists;
  turn = subst (λ n. 0 < n → k < n) (sym (looked_length holds p xs ys l)) h.turn;
  full = full_same xs ys fs (looked_length holds p xs ys l) (looked_empty holds p xs ys l) h.full;
  packed = λ e. subst (λ bs. Packed (ring k bs)) (sym (empties_same xs ys (looked_length holds p xs ys l) (looked_empty holds p xs ys l))) (h.packed e);
  still = h.still;
}

-- a round of polls
pub stands_fetch : (o : Bool) (k : ℕ) (xs ys : List Slot) (fs : List FutureData) (ns ms ds : List ℕ) (v w : Waiters) (holds : Option Store) → Stands o k xs fs ns ds v → EachGoes holds xs ys → Linked w ys → (HasNews xs ns → HasNews ys ms) → Stands o k ys fs ms ds w
stands_fetch o k xs ys fs ns ms ds v w holds h g links news = record {
  links = links;
  has = news h.has;
  lists = λ e q f. h.lists e q (sym (g.at q).done ∙ f);
  turn = subst (λ n. 0 < n → k < n) (sym g.len) h.turn;
  full = full_same xs ys fs g.len (λ q. (g.at q).empty) h.full;
  packed = λ e. subst (λ bs. Packed (ring k bs)) (sym (empties_same xs ys g.len (λ q. (g.at q).empty))) (h.packed e);
  still = h.still;
}

after_within : (o : Bool) (k : ℕ) (n : ℕ) → k < n → turn_after o k n < n
after_within false k n lt = lt
after_within true k n lt = go (nat_lt (k + 1) n) refl
  where
    go : (b : Bool) → nat_lt (k + 1) n ≡ b → (if b then k + 1 else 0) < n
    go true e = grind (arith, nat_tests)
    go false e = omega (arith, lt)

-- an array is given
pub stands_give : (o : Bool) (k p : ℕ) (xs : List Slot) (a : ArrayData) (fs : List FutureData) (ns ds es : List ℕ) (w : Waiters)
    → Stands o k xs fs ns ds w → slot_at xs p ≡ slot.Done a → (o ≡ true → p ≡ k) → (o ≡ false → ds ≡ p ∷ es) → Stands o (turn_after o k (length xs)) (set xs p (next_slot fs)) (later fs) (ns ++ news_of fs p) es w
stands_give o k p xs a fs ns ds es w h is at first =
    record {
      links = given_links w xs p a fs lt is h.links;
      has = given_news xs p fs ns lt h.has;
      lists = λ e. given_lists xs p fs es lt (subst (λ xs'. (q : ℕ) → is_done (slot_at xs q) ≡ true → is_among xs' q ≡ true) (first e) (h.lists e));
      turn = λ some. subst (λ n. turn_after o k (length xs) < n) (sym (length-set xs p (next_slot fs))) (after_within o k (length xs) (h.turn (omega (arith, lt))));
      full = given_full xs p fs lt h.full;
      packed = λ e. packs o e at h.packed;
      still = λ e. stays o e h.still;
    }
  where
    lt : p < length xs
    lt = done_within xs p (ap is_done is)

    packs : (b : Bool) → b ≡ true → (b ≡ true → p ≡ k) → (b ≡ true → Packed (ring k (map is_empty xs))) → Packed (ring (turn_after b k (length xs)) (map is_empty (set xs p (next_slot fs))))
    packs false e m q = absurd cc
    packs true e m q =
        let same : p ≡ k = m refl in
        subst (λ j. Packed (ring (turn_after true k (length xs)) (map is_empty (set xs j (next_slot fs))))) (sym same) (given_packed k xs fs (subst (λ j. j < length xs) same lt) h.full (q refl))

    stays : (b : Bool) → b ≡ false → (b ≡ false → k ≡ 0) → turn_after b k (length xs) ≡ 0
    stays false e m = m refl
    stays true e m = absurd cc

-- nothing has news, is live or has its turn: nothing is left
pub none_left : (o : Bool) (k : ℕ) (xs : List Slot) (fs : List FutureData) (ns ds : List ℕ) (w : Waiters) → Stands o k xs fs ns ds w → ns ≡ [] → w ≡ [] → (o ≡ true → is_done (slot_at xs k) ≡ false) → (o ≡ false → ds ≡ []) → splits_in k xs fs ≡ []
none_left o k xs fs ns ds w h no_news no_wait no_turn no_done = go (le_or_lt (length xs) 0)
  where
    empty_at : (p : ℕ) → is_done (slot_at xs p) ≡ false → is_empty (slot_at xs p) ≡ true
    empty_at p d = idle_empty (slot_at xs p) (fresh (is_fresh (slot_at xs p)) refl) (λ id. sym (h.links.same id p) ∙ ap (λ v. waits v id p) no_wait) d
      where
        fresh : (b : Bool) → is_fresh (slot_at xs p) ≡ b → is_fresh (slot_at xs p) ≡ false
        fresh true e = let bad : false ≡ true = ap (λ ms. is_among ms p) (sym no_news) ∙ h.has p e in absurd cc
        fresh false e = e

    not_done : o ≡ false → (p : ℕ) → is_done (slot_at xs p) ≡ false
    not_done e p = cases (is_done (slot_at xs p)) refl
      where
        cases : (b : Bool) → is_done (slot_at xs p) ≡ b → is_done (slot_at xs p) ≡ false
        cases true d = let bad : false ≡ true = ap (λ ms. is_among ms p) (sym (no_done e)) ∙ h.lists e p d in absurd cc
        cases false d = d

    both : fs ≡ [] → flat_map slot_split (ring k xs) ≡ [] → splits_in k xs fs ≡ []
    both e f = λ i. f i ++ map new_split (e i)

    some : 0 < length xs → (b : Bool) → o ≡ b → splits_in k xs fs ≡ []
    some lt true e =
        let within : k < length xs = h.turn lt in
        let empty = empty_at k (no_turn e) in
        both (h.full.0 k within empty) (ring_empty k xs within empty (h.packed e))
    some lt false e =
        let all : (p : ℕ) → is_empty (slot_at xs p) ≡ true = λ p. empty_at p (not_done e p) in
        both (h.full.0 0 lt (all 0)) (ap (λ j. flat_map slot_split (ring j xs)) (h.still e) ∙ ap (flat_map slot_split) (append-nil xs) ∙ slots_empty xs all)

    go : (length xs ≤ 0) ⊎ (0 < length xs) → splits_in k xs fs ≡ []
    go (inl le) =
        let none : xs ≡ [] = nil_from_length xs (omega (arith, le)) in
        both (h.full.1 none) (ap (λ ys. flat_map slot_split (ring k ys)) none ∙ ap (flat_map slot_split) (ring_none k))
    go (inr lt) = some lt o refl

-- ---- splits of which nothing has been read
started_waits : (xs : List Slot) → AllStarted xs → (id p : ℕ) → slot_waits (slot_at xs p) id ≡ false
started_waits [] h id zero = refl
started_waits [] h id (suc p) = refl
started_waits (x ∷ xs) h id zero = ap (λ s. slot_waits s id) h.0.1
started_waits (x ∷ xs) h id (suc p) = started_waits xs h.1 id p

started_done : (xs : List Slot) → AllStarted xs → (p : ℕ) → is_done (slot_at xs p) ≡ false
started_done [] h zero = refl
started_done [] h (suc p) = refl
started_done (x ∷ xs) h zero = ap is_done h.0.1
started_done (x ∷ xs) h (suc p) = started_done xs h.1 p

started_full : (xs : List Slot) → AllStarted xs → (p : ℕ) → p < length xs → is_empty (slot_at xs p) ≡ false
started_full [] h p lt = absurd (omega arith)
started_full (x ∷ xs) h zero lt = ap is_empty h.0.1
started_full (x ∷ xs) h (suc p) lt = started_full xs h.1 p (omega (arith, lt))

started_packed : (xs : List Slot) → AllStarted xs → Packed (map is_empty xs)
started_packed [] h = tt
started_packed (x ∷ xs) h = (λ e. let bad : false ≡ true = sym (ap is_empty h.0.1) ∙ e in absurd cc, started_packed xs h.1)

pub stands_new : (o : Bool) (count : ℕ) (splits : List FutureData) (xs : List Slot) (fs : List FutureData) (ns : List ℕ) → Starts count splits xs fs ns → (count ≡ 0 → length splits ≡ 0) → Stands o 0 xs fs ns [] []
stands_new o count splits xs fs ns h none = record {
  links = record { same = λ id p. sym (started_waits xs h.started id p); live = λ id. refl };
  has = h.has;
  lists = λ e p d. let bad : false ≡ true = sym (started_done xs h.started p) ∙ d in absurd cc;
  turn = λ lt. lt;
  full = (λ p lt e. let bad : false ≡ true = sym (started_full xs h.started p lt) ∙ e in absurd cc, λ e. let l = ap length e in let n = h.len in let r = h.rest in let z : count ≡ 0 = omega (arith, l, n) in let s = none z in nil_from_length fs (omega (arith, r, z, s)));
  packed = λ e. subst Packed (sym (append-nil (map is_empty xs))) (started_packed xs h.started);
  still = λ e. refl;
}
