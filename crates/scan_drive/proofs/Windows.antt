-- Up to which file openers are polled, and what was given by then.
use Rattle.std.proofs.Common.{◌≡◌, ◌≢◌, ℕ, zero, suc, ◌+◌, ◌-◌, ◌<◌, ◌≤◌, Bool, true, false, cond, not, eqb, ltb, ◌||◌, ◌&&◌, List, [], ◌∷◌, ◌++◌, filter, length, map, get_or, take, Option, IsPermutation, inl, inr, refl, sym, ap, ◌∙◌, subst, arith, append_assoc, append-nil}
use Rattle.std.specs.Prelude.{◌⊎◌, All}
use Rattle.std.specs.List.{flat_map, range_with_len}
use Rattle.std.proofs.lemmas.Bool.{cases_eq, lt-ltb, le-ltb}
use Rattle.std.proofs.lemmas.Bool.Decides.{nat_tests}
use Rattle.std.proofs.lemmas.List.{get_or_default, length-append}
use Rattle.std.proofs.lemmas.List.Elements.{filter-append}
use Rattle.std.proofs.lemmas.List.FromFn.{length-range_with_len}
use Rattle.std.proofs.lemmas.List.Sorted.{IsPermutation-trans, IsPermutation-append_left, IsPermutation-filter_both}
use Rattle.scan_values.specs.Selections.{is_among}
use Rattle.scan_segments.specs.Source.{Store}
use Rattle.scan_splits.specs.Arrivals.{Arrivals}
use Rattle.scan_splits.specs.Wanted.{no_repeats}
use Rattle.scan_drive.specs.Actives.{AreSeats, groups_in, groups_left}
use Rattle.scan_drive.specs.Before.{InOrder}
use Rattle.scan_drive.specs.Chunks.{given, limit_of, HasRoom, Fits}
use Rattle.scan_drive.specs.Drivings.{GivesBefore}
use Rattle.scan_drive.specs.Ends.{limit_in}
use Rattle.scan_drive.specs.Files.{Group, grouped, Told, told_at, AllTell, part_groups, answer, count}
use Rattle.scan_drive.specs.Line.{answer_in, GivesSome}
use Rattle.scan_drive.specs.Phases.{SpentBelow, rest}
use Rattle.scan_drive.specs.Polls.{GivesUpTo}
use Rattle.scan_drive.specs.Rounds.{Sound}
use Rattle.scan_drive.specs.Slots.{slot_at, nothing, stage_rows, slot_groups}
use Rattle.scan_drive.specs.Splits.{SplitState, Event}
use Rattle.scan_drive.specs.Windows.{AreBusy, FollowsFront, FreesPlaces, IsWindow}
use Rattle.scan_drive.specs.declared.round.Drive.{Drive}
use Rattle.scan_drive.specs.declared.slot.Slot.{Slot}
use Rattle.scan_drive.proofs.ExchangedAnswer.{answer_places}
use Rattle.scan_drive.proofs.Giving.{more_none}
use Rattle.scan_drive.proofs.Handing.{le_or_lt, among_head, among_later}
use Rattle.scan_drive.proofs.Leading.{Of, of_append, of_over, of_grouped, of_part, rest_after, fits, gives_done, gives_less}
use Rattle.scan_drive.proofs.Same.{passed_alike, same_any}
use Rattle.scan_drive.proofs.Seating.{among_append, or_left}

-- ---- the files that have active splits
-- what holds of each of a list holds of one that is among it
all_among : (P : ℕ → Type 0) (xs : List ℕ) (n : ℕ) → ((j : ℕ) (d : ℕ) → j < length xs → P (get_or xs j d)) → is_among xs n ≡ true → P n
all_among P [] n h m = absurd cc
all_among P (x ∷ xs) n h m = go (eqb x n) refl (λ later. all_among P xs n (λ j d lt. h (suc j) d (omega (arith, lt))) later)
  where
    go : (b : Bool) → eqb x n ≡ b → (is_among xs n ≡ true → P n) → P n
    go true e ih = let is : x ≡ n = grind (arith, nat_tests) in subst P is (h 0 x (omega arith))
    go false e ih = ih (sym (ap (λ b. b || is_among xs n) e) ∙ m)

module _ {W R : Type 0} where
  -- of the first of the turns
  pub record BusySoFar (turns : List ℕ) (slots : List (Slot W R)) (first i n last : ℕ) : Type 0 where
    pub busy : List ℕ
    pub as_many : length busy ≡ n
    pub few : n ≤ i
    pub all : (j d : ℕ) → j < i → (first ≤ (slot_at slots (get_or turns j d)).file) ⊎ (is_among busy (slot_at slots (get_or turns j d)).file ≡ true)
    pub seen : last < first → is_among busy last ≡ true

  pub busy_start : (turns : List ℕ) (slots : List (Slot W R)) (first : ℕ) → BusySoFar turns slots first 0 0 first
  busy_start turns slots first = record {
    busy = [];
    as_many = refl;
    few = omega arith;
    all = λ j d lt. absurd (omega (arith, lt));
    seen = λ lt. absurd (omega (arith, lt));
  }

  pub busy_more : (turns : List ℕ) (slots : List (Slot W R)) (first i n last file m : ℕ) → i < length turns → ((d : ℕ) → (slot_at slots (get_or turns i d)).file ≡ file)
      → ((file < first) × (m ≡ n + 1)) ⊎ (((first ≤ file) ⊎ (file ≡ last)) × (m ≡ n)) → BusySoFar turns slots first i n last → BusySoFar turns slots first (i + 1) m file
  busy_more turns slots first i n last file m lt is step h = go step
    where
      At : List ℕ → ℕ → Type 0
      At busy k = (first ≤ k) ⊎ (is_among busy k ≡ true)

      each : (busy : List ℕ) → ((j d : ℕ) → j < i → At busy (slot_at slots (get_or turns j d)).file) → At busy file → (j d : ℕ) → j < i + 1 → At busy (slot_at slots (get_or turns j d)).file
      each busy old here j d less = pick (cases_eq j i)
        where
          pick : (j ≡ i) ⊎ (j ≢ i) → At busy (slot_at slots (get_or turns j d)).file
          pick (inl e) = subst (At busy) (sym (ap (λ q. (slot_at slots (get_or turns q d)).file) e ∙ is d)) here
          pick (inr ne) = old j d (omega (arith, less, ne))

      same : (first ≤ file) ⊎ (file ≡ last) → m ≡ n → At h.busy file → BusySoFar turns slots first (i + 1) m file
      same c e here = record {
        busy = h.busy;
        as_many = h.as_many ∙ sym e;
        few = (let f = h.few in omega (arith, f, e));
        all = each h.busy h.all here;
        seen = λ less. seen c less;
      }
        where
          seen : (first ≤ file) ⊎ (file ≡ last) → file < first → is_among h.busy file ≡ true
          seen (inl le) less = absurd (omega (arith, le, less))
          seen (inr q) less = ap (is_among h.busy) q ∙ h.seen (omega (arith, less, q))

      here : (first ≤ file) ⊎ (file ≡ last) → At h.busy file
      here (inl le) = inl le
      here (inr q) = by (le_or_lt first file)
        where
          by : (first ≤ file) ⊎ (file < first) → At h.busy file
          by (inl le) = inl le
          by (inr less) = inr (ap (is_among h.busy) q ∙ h.seen (omega (arith, less, q)))

      go : ((file < first) × (m ≡ n + 1)) ⊎ (((first ≤ file) ⊎ (file ≡ last)) × (m ≡ n)) → BusySoFar turns slots first (i + 1) m file
      go (inr c) = same c.0 c.1 (here c.0)
      go (inl c) = record {
        busy = file ∷ h.busy;
        as_many = (let e = h.as_many in let q = c.1 in omega (arith, e, q));
        few = (let f = h.few in let q = c.1 in omega (arith, f, q));
        all = each (file ∷ h.busy) (λ j d less. wider (slot_at slots (get_or turns j d)).file (h.all j d less)) (inr (among_head file h.busy));
        seen = λ less. among_head file h.busy;
      }
        where
          wider : (k : ℕ) → At h.busy k → At (file ∷ h.busy) k
          wider k (inl le) = inl le
          wider k (inr a) = inr (among_later file k h.busy a)

  pub busy_end : (turns : List ℕ) (slots : List (Slot W R)) (first i n last : ℕ) → length turns ≤ i → BusySoFar turns slots first i n last → AreBusy turns slots first n
  busy_end turns slots first i n last le h = record {
    busy = h.busy;
    as_many = h.as_many;
    all = λ place m. all_among (λ p. (first ≤ (slot_at slots p).file) ⊎ (is_among h.busy (slot_at slots p).file ≡ true)) turns place (λ j d lt. h.all j d (omega (arith, lt, le))) m;
  }

-- each turn is of a slot
pub turn_within : {W R : Type 0} (turns free : List ℕ) (slots : List (Slot W R)) (i place : ℕ) → i < length turns → place ≡ get_or turns i place → AreSeats turns free slots → place < length slots
turn_within turns free slots i place lt e s = s.within place (among_append turns free place ∙ or_left (is_among turns place) (is_among free place) (ap (is_among turns) e ∙ at_index turns i lt))
  where
    at_index : (xs : List ℕ) (j : ℕ) → j < length xs → is_among xs (get_or xs j place) ≡ true
    at_index [] j l = absurd (omega (arith, l))
    at_index (x ∷ xs) zero l = among_head x xs
    at_index (x ∷ xs) (suc j) l = among_later x (get_or xs j place) xs (at_index xs j (omega (arith, l)))

-- ---- numbers of a range that are not among others
abbrev passed : (ℕ → Bool) → ℕ → ℕ → List ℕ
passed q a n = filter q (range_with_len a n)

-- at most one number is some other
one_less : (q : ℕ → Bool) (b a n : ℕ) → length (passed q a n) ≤ length (passed (λ x. not (eqb b x) && q x) a n) + 1
one_less q b a zero = omega arith
one_less q b a (suc n) = go (eqb b a) refl (q a) refl (one_less q b (a + 1) n)
  where
    -- behind it no number is the same
    behind : (c m : ℕ) → b < c → passed (λ x. not (eqb b x) && q x) c m ≡ passed q c m
    behind c zero lt = refl
    behind c (suc m) lt =
        let off : eqb b c ≡ false = grind (arith, nat_tests) in
        ap (λ e. cond (not e && q c) (c ∷ passed (λ x. not (eqb b x) && q x) (c + 1) m) (passed (λ x. not (eqb b x) && q x) (c + 1) m)) off
        ∙ ap (λ xs. cond (q c) (c ∷ xs) xs) (behind (c + 1) m (omega (arith, lt)))

    go : (e : Bool) → eqb b a ≡ e → (t : Bool) → q a ≡ t → length (passed q (a + 1) n) ≤ length (passed (λ x. not (eqb b x) && q x) (a + 1) n) + 1
        → length (cond (q a) (a ∷ passed q (a + 1) n) (passed q (a + 1) n)) ≤ length (cond (not (eqb b a) && q a) (a ∷ passed (λ x. not (eqb b x) && q x) (a + 1) n) (passed (λ x. not (eqb b x) && q x) (a + 1) n)) + 1
    go true e true t ih =
        let is : b ≡ a = grind (arith, nat_tests) in
        let z : passed (λ x. not (eqb b x) && q x) (a + 1) n ≡ passed q (a + 1) n = behind (a + 1) n (omega (arith, is)) in
        let l = ap length z in
        rw (e, t) (omega (arith, l))
    go true e false t ih = rw (e, t) ih
    go false e true t ih = rw (e, t) (omega (arith, ih))
    go false e false t ih = rw (e, t) ih

abbrev free_of : List ℕ → ℕ → Bool
free_of busy x = not (is_among busy x)

not_either : (a b : Bool) → (not a && not b) ≡ not (a || b)
not_either true b = refl
not_either false b = refl

alike_passed : (p q : ℕ → Bool) → ((x : ℕ) → p x ≡ q x) → (a n : ℕ) → passed p a n ≡ passed q a n
alike_passed p q h a zero = refl
alike_passed p q h a (suc n) = ap (λ b. cond b (a ∷ passed p (a + 1) n) (passed p (a + 1) n)) (h a) ∙ ap (λ xs. cond (q a) (a ∷ xs) xs) (alike_passed p q h (a + 1) n)

all_pass : (a n : ℕ) → length (passed (λ x. true) a n) ≡ n
all_pass a zero = refl
all_pass a (suc n) = ap suc (all_pass (a + 1) n)

-- no more are taken away than there are others
few_less : (busy : List ℕ) (a n : ℕ) → n ≤ length (passed (free_of busy) a n) + length busy
few_less [] a n = let e : length (passed (free_of []) a n) ≡ n = all_pass a n in omega (arith, e)
few_less (b ∷ busy) a n =
    let ih = few_less busy a n in
    let step = one_less (free_of busy) b a n in
    let e : length (passed (λ x. not (eqb b x) && free_of busy x) a n) ≡ length (passed (free_of (b ∷ busy)) a n) = ap length (alike_passed (λ x. not (eqb b x) && free_of busy x) (free_of (b ∷ busy)) (λ x. not_either (eqb b x) (is_among busy x)) a n) in
    omega (arith, ih, step, e)

-- ---- so many of them, up to some number
range_more : (a n : ℕ) → range_with_len a (suc n) ≡ range_with_len a n ++ (a + n) ∷ []
range_more a zero = let z : a ≡ a + 0 = omega arith in ap (λ k. k ∷ []) z
range_more a (suc n) = let z : a + 1 + n ≡ a + suc n = omega arith in ap (λ xs. a ∷ xs) (range_more (a + 1) n ∙ ap (λ k. range_with_len (a + 1) n ++ k ∷ []) z)

passed_more : (q : ℕ → Bool) (a n : ℕ) → length (passed q a (suc n)) ≤ length (passed q a n) + 1
passed_more q a n = go (q (a + n)) refl
  where
    is : passed q a (suc n) ≡ passed q a n ++ cond (q (a + n)) ((a + n) ∷ []) []
    is = ap (filter q) (range_more a n) ∙ filter-append q (range_with_len a n) ((a + n) ∷ [])

    go : (b : Bool) → q (a + n) ≡ b → length (passed q a (suc n)) ≤ length (passed q a n) + 1
    go true e = let l = ap length is ∙ length-append (passed q a n) (cond (q (a + n)) ((a + n) ∷ []) []) ∙ ap (λ b. length (passed q a n) + length (cond b ((a + n) ∷ []) [])) e in omega (arith, l)
    go false e = let l = ap length is ∙ length-append (passed q a n) (cond (q (a + n)) ((a + n) ∷ []) []) ∙ ap (λ b. length (passed q a n) + length (cond b ((a + n) ∷ []) [])) e in omega (arith, l)

-- just so many pass below some number
record JustSo (q : ℕ → Bool) (n m : ℕ) : Type 0 where
  end : ℕ
  within : end ≤ n
  as_many : length (passed q 0 end) ≡ m

just_so : (q : ℕ → Bool) (n m : ℕ) → m ≤ length (passed q 0 n) → JustSo q n m
just_so q zero m le = record { end = 0; within = omega arith; as_many = omega (arith, le) }
just_so q (suc n) m le = go (le_or_lt m (length (passed q 0 n))) (λ less. just_so q n m less)
  where
    go : (m ≤ length (passed q 0 n)) ⊎ (length (passed q 0 n) < m) → (m ≤ length (passed q 0 n) → JustSo q n m) → JustSo q (suc n) m
    go (inl less) ih = let j = ih less in record { end = j.end; within = (let w = j.within in omega (arith, w)); as_many = j.as_many }
    go (inr lt) ih =
        let more = passed_more q 0 n in
        record { end = suc n; within = omega arith; as_many = omega (arith, lt, le, more) }

-- each is of the range and passes
passed_within : (q : ℕ → Bool) (a n p : ℕ) → is_among (passed q a n) p ≡ true → (a ≤ p) × (p < a + n) × (q p ≡ true)
passed_within q a zero p m = absurd cc
passed_within q a (suc n) p m = go (q a) refl (λ h. later (passed_within q (a + 1) n p h))
  where
    later : (a + 1 ≤ p) × (p < a + 1 + n) × (q p ≡ true) → (a ≤ p) × (p < a + suc n) × (q p ≡ true)
    later r = let x = r.0 in let y = r.1 in (omega (arith, x), omega (arith, y), r.2)

    go : (b : Bool) → q a ≡ b → (is_among (passed q (a + 1) n) p ≡ true → (a ≤ p) × (p < a + suc n) × (q p ≡ true)) → (a ≤ p) × (p < a + suc n) × (q p ≡ true)
    go false e ih = ih (sym (ap (λ b. is_among (cond b (a ∷ passed q (a + 1) n) (passed q (a + 1) n)) p) e) ∙ m)
    go true e ih = by (eqb a p) refl
      where
        on : (eqb a p || is_among (passed q (a + 1) n) p) ≡ true
        on = sym (ap (λ b. is_among (cond b (a ∷ passed q (a + 1) n) (passed q (a + 1) n)) p) e) ∙ m

        by : (c : Bool) → eqb a p ≡ c → (a ≤ p) × (p < a + suc n) × (q p ≡ true)
        by true i = let is : a ≡ p = grind (arith, nat_tests) in (omega (arith, is), omega (arith, is), sym (ap q is) ∙ e)
        by false i = ih (sym (ap (λ c. c || is_among (passed q (a + 1) n) p) i) ∙ on)

passed_once : (q : ℕ → Bool) (a n : ℕ) → no_repeats (passed q a n) ≡ true
passed_once q a zero = refl
passed_once q a (suc n) = go (q a) refl (is_among (passed q (a + 1) n) a) refl (passed_once q (a + 1) n)
  where
    go : (b : Bool) → q a ≡ b → (c : Bool) → is_among (passed q (a + 1) n) a ≡ c → no_repeats (passed q (a + 1) n) ≡ true → no_repeats (passed q a (suc n)) ≡ true
    go b e true i ih = let r = passed_within q (a + 1) n a i in let x = r.0 in absurd (omega (arith, x))
    go false e false i ih = ap (λ b. no_repeats (cond b (a ∷ passed q (a + 1) n) (passed q (a + 1) n))) e ∙ ih
    go true e false i ih = ap (λ b. no_repeats (cond b (a ∷ passed q (a + 1) n) (passed q (a + 1) n))) e ∙ ap (λ c. not c && no_repeats (passed q (a + 1) n)) i ∙ ih

-- of a longer range those below a number
abbrev below : (ℕ → Bool) → ℕ → ℕ → Bool
below q end x = q x && ltb x end

none_below : (q : ℕ → Bool) (end a n : ℕ) → end ≤ a → passed (below q end) a n ≡ []
none_below q end a zero le = refl
none_below q end a (suc n) le =
    ap (λ b. cond (q a && b) (a ∷ passed (below q end) (a + 1) n) (passed (below q end) (a + 1) n)) (le-ltb a end le)
    ∙ ap (λ b. cond b (a ∷ passed (below q end) (a + 1) n) (passed (below q end) (a + 1) n)) (off (q a)) ∙ none_below q end (a + 1) n (omega (arith, le))
  where
    off : (b : Bool) → (b && false) ≡ false
    off true = refl
    off false = refl

passed_below : (q : ℕ → Bool) (a m n : ℕ) → m ≤ n → passed (below q (a + m)) a n ≡ passed q a m
passed_below q a zero n le = none_below q (a + 0) a n (omega arith)
passed_below q a (suc m) zero le = absurd (omega (arith, le))
passed_below q a (suc m) (suc n) le =
    let z : a + suc m ≡ a + 1 + m = omega arith in
    let lt : a < a + suc m = omega arith in
    ap (λ b. cond (q a && b) (a ∷ passed (below q (a + suc m)) (a + 1) n) (passed (below q (a + suc m)) (a + 1) n)) (lt-ltb a (a + suc m) lt)
    ∙ ap (λ b. cond b (a ∷ passed (below q (a + suc m)) (a + 1) n) (passed (below q (a + suc m)) (a + 1) n)) (on (q a))
    ∙ ap (λ xs. cond (q a) (a ∷ xs) xs) (ap (λ e. passed (below q e) (a + 1) n) z ∙ passed_below q (a + 1) m n (omega (arith, le)))
  where
    on : (b : Bool) → (b && true) ≡ b
    on true = refl
    on false = refl

-- ---- groups of the files that pass
module _ {I : Type 0} where
  abbrev group_passes : (ℕ → Bool) → Group I → Bool
  group_passes t g = t g.0

  part_passes : (t : ℕ → Bool) (b : Bool) (gs : List (Group I)) → Of (λ n. t n ≡ b) gs → filter (group_passes t) gs ≡ cond b gs []
  part_passes t true [] h = refl
  part_passes t false [] h = refl
  part_passes t true (g ∷ gs) h = ap (λ b. cond b (g ∷ filter (group_passes t) gs) (filter (group_passes t) gs)) h.0 ∙ ap (λ xs. g ∷ xs) (part_passes t true gs h.1)
  part_passes t false (g ∷ gs) h = ap (λ b. cond b (g ∷ filter (group_passes t) gs) (filter (group_passes t) gs)) h.0 ∙ part_passes t false gs h.1

  answer_passes : (t : ℕ → Bool) (ks : List ℕ) (tale : List (Told I)) → filter (group_passes t) (answer_in ks tale) ≡ answer_in (filter t ks) tale
  answer_passes t [] tale = refl
  answer_passes t (k ∷ ks) tale =
      filter-append (group_passes t) (part_groups k (told_at tale k)) (answer_in ks tale)
      ∙ ap (λ gs. gs ++ filter (group_passes t) (answer_in ks tale)) (part_passes t (t k) (part_groups k (told_at tale k)) (of_part (λ n. t n ≡ t k) k (told_at tale k).part (told_at tale k).store refl))
      ∙ ap (λ gs. cond (t k) (part_groups k (told_at tale k)) [] ++ gs) (answer_passes t ks tale) ∙ go (t k)
    where
      go : (b : Bool) → cond b (part_groups k (told_at tale k)) [] ++ answer_in (filter t ks) tale ≡ answer_in (cond b (k ∷ filter t ks) (filter t ks)) tale
      go true = refl
      go false = refl

  of_weaker : (P Q : ℕ → Type 0) → ((n : ℕ) → P n → Q n) → (gs : List (Group I)) → Of P gs → Of Q gs
  of_weaker P Q h [] o = tt
  of_weaker P Q h (g ∷ gs) o = (h g.0 o.0, of_weaker P Q h gs o.1)

  -- what is given of the files that pass is theirs, where nothing of them is left
  passed_given : (t : ℕ → Bool) (gs ls : List (Group I)) (tale : List (Told I)) → IsPermutation (gs ++ ls) (answer tale) → Of (λ n. t n ≡ false) ls
      → (more : List (Group I)) × IsPermutation gs (answer_in (filter t (range_with_len 0 (length tale))) tale ++ more)
  passed_given t gs ls tale e l = (filter other gs, IsPermutation-trans gs (filter p gs ++ filter other gs) (theirs ++ filter other gs) (IsPermutation-filter_both p other (λ g. refl) gs) (IsPermutation-append_left (filter other gs) (filter p gs) theirs same))
    where
      p : Group I → Bool
      p = group_passes t

      other : Group I → Bool
      other g = not (p g)

      theirs : List (Group I)
      theirs = answer_in (filter t (range_with_len 0 (length tale))) tale

      all_is : (n : ℕ) (ts : List (Told I)) → n ≡ length ts → take n ts ≡ ts
      all_is zero [] e = refl
      all_is zero (x ∷ ts) e = absurd (omega (arith, e))
      all_is (suc n) [] e = absurd (omega (arith, e))
      all_is (suc n) (x ∷ ts) e = ap (λ us. x ∷ us) (all_is n ts (omega (arith, e)))

      right : filter p (answer tale) ≡ theirs
      right = ap (λ ts. filter p (answer ts)) (sym (all_is (length tale) tale refl)) ∙ ap (filter p) (answer_places tale (length tale)) ∙ answer_passes t (range_with_len 0 (length tale)) tale

      left : filter p (gs ++ ls) ≡ filter p gs
      left = filter-append p gs ls ∙ ap (λ xs. filter p gs ++ xs) (part_passes t false ls l) ∙ append-nil (filter p gs)

      same : IsPermutation (filter p gs) theirs
      same = subst (IsPermutation (filter p gs)) right (subst (λ xs. IsPermutation xs (filter p (answer tale))) left (passed_alike p (gs ++ ls) (answer tale) e))

module _ {W I R : Type 0} (split : W → SplitState I) (comes : W → Arrivals → Store → Event → Type 0) (items : R → List I) where
  -- what active splits have to give is of their files
  left_of : (P : ℕ → Type 0) (tale : List (Told I)) (turns : List ℕ) (slots : List (Slot W R)) → ((place : ℕ) → is_among turns place ≡ true → P (slot_at slots place).file) → Of P (groups_in split comes items tale turns slots)
  left_of P tale [] slots h = tt
  left_of P tale (p ∷ ps) slots h =
      let s = slot_at slots p in
      of_append P (slot_groups split comes items tale s) (groups_in split comes items tale ps slots)
      (of_over P (told_at tale s.file).store (λ store. grouped s.file (stage_rows split comes items store s.stage)) (λ store. of_grouped P s.file (stage_rows split comes items store s.stage) (h p (among_head p ps))))
      (left_of P tale ps slots (λ q m. h q (among_later p q ps m)))

module _ {W I R F : Type 0} (split : W → SplitState I) (comes : W → Arrivals → Store → Event → Type 0) (items : R → List I) where
  -- where a finished file frees its place, as many of the files up to one of the window were given as it may wait for
  pub gives_freed : (workers last k : ℕ) (tale : List (Told I)) (d : Drive W R F) → AllTell tale → Sound split comes items tale d → SpentBelow d.phases.items d.first → HasRoom d.left → d.first ≤ length tale →
      FreesPlaces workers d.active.turns.items d.active.slots.items d.first last → d.first < last → k < last → GivesSome items (limit_in split comes items d) tale k (k + 1 - workers)
  gives_freed workers last k tale d all s below_first room within w wide lt = record {
    places = places;
    once = passed_once q 0 j.end;
    within = λ p m. (let x = (passed_within q 0 j.end p m).1 in let y = j.within in let z = low.1 in omega (arith, x, y, z));
    as_many = j.as_many;
    chunks = d.chunks.items;
    more = got.0;
    groups = subst (λ ps. IsPermutation here (answer_in ps tale ++ got.0)) (passed_below q 0 j.end (length tale) (let y = j.within in let z = low.2 in omega (arith, y, z, within))) got.1;
    room = subst (Fits (count here)) (more_none split comes items d.ordered d.active d.chunks.items d.left room).counts.limit (fits (count here) d.left room);
  }
    where
      busy : List ℕ
      busy = w.are_busy.busy

      q : ℕ → Bool
      q = free_of busy

      -- the files up to this one, as far as they have no splits left
      low : (n : ℕ) × (n ≤ k + 1) × (n ≤ d.first) × (k + 1 - workers ≤ length (passed q 0 n))
      low = go (le_or_lt (k + 1) d.first)
        where
          go : (k + 1 ≤ d.first) ⊎ (d.first < k + 1) → (n : ℕ) × (n ≤ k + 1) × (n ≤ d.first) × (k + 1 - workers ≤ length (passed q 0 n))
          go (inl le) = let f : k + 1 ≤ length (passed q 0 (k + 1)) + length busy = few_less busy 0 (k + 1) in let n = w.are_busy.as_many in let m = w.most wide in (k + 1, omega arith, le, omega (arith, f, n, m, wide))
          go (inr more) = let f : d.first ≤ length (passed q 0 d.first) + length busy = few_less busy 0 d.first in let n = w.are_busy.as_many in let m = w.most wide in (d.first, omega (arith, more), omega arith, omega (arith, f, n, m, lt))

      j : JustSo q low.0 (k + 1 - workers)
      j = just_so q low.0 (k + 1 - workers) low.3

      places : List ℕ
      places = passed q 0 j.end

      here : List (Group I)
      here = given items d.chunks.items

      now : List (Group I)
      now = groups_left split comes items tale d.active

      others : List (Group I)
      others = rest split comes tale d.phases.items

      t : ℕ → Bool
      t = below q (0 + j.end)

      above : (n : ℕ) → d.first ≤ n → t n ≡ false
      above n le = go (q n) (let y = j.within in let z = low.2 in le-ltb n (0 + j.end) (omega (arith, le, y, z)))
        where
          go : (b : Bool) → ltb n (0 + j.end) ≡ false → (b && ltb n (0 + j.end)) ≡ false
          go true e = e
          go false e = refl

      active : (n : ℕ) → (d.first ≤ n) ⊎ (is_among busy n ≡ true) → t n ≡ false
      active n (inl le) = above n le
      active n (inr m) = ap (λ b. not b && ltb n (0 + j.end)) m

      got : (more : List (Group I)) × IsPermutation here (answer_in (filter t (range_with_len 0 (length tale))) tale ++ more)
      got = passed_given t here (now ++ others) tale (same_any d.ordered (here ++ (now ++ others)) (answer tale) (s.sums all))
          (of_append (λ n. t n ≡ false) now others (left_of split comes items (λ n. t n ≡ false) tale d.active.turns.items d.active.slots.items (λ place m. active (slot_at d.active.slots.items place).file (w.are_busy.all place m)))
          (of_weaker (λ n. d.first ≤ n) (λ n. t n ≡ false) above others (rest_after split comes d.first 0 tale d.phases.items (λ n less. below_first n (omega (arith, less))))))

  -- in order or in none
  pub gives_in_window : (workers last : ℕ) (tale : List (Told I)) (d : Drive W R F) → AllTell tale → Sound split comes items tale d → InOrder d → SpentBelow d.phases.items d.first → HasRoom d.left → d.first ≤ length tale →
      IsWindow d.ordered workers d.active.turns.items d.active.slots.items d.first last → (k : ℕ) → d.first ≤ k → k < last → GivesUpTo items d.ordered workers (limit_in split comes items d) tale k
  gives_in_window workers last tale d all s order below_first room within w k from lt = go d.ordered refl
    where
      go : (b : Bool) → d.ordered ≡ b → GivesUpTo items d.ordered workers (limit_in split comes items d) tale k
      go true e =
          let f : FollowsFront workers d.active.turns.items d.active.slots.items d.first last = subst (λ b. IsWindow b workers d.active.turns.items d.active.slots.items d.first last) e w in
          let m = f.most in
          subst (λ b. GivesUpTo items b workers (limit_in split comes items d) tale k) (sym e)
          (gives_less items true (limit_in split comes items d) tale (k + 1 - workers) f.done (omega (arith, m, lt))
          (subst (λ b. GivesBefore items b (limit_in split comes items d) tale f.done) e (gives_done split comes items tale d f.done all s below_first room order f.is_done)))
      go false e =
          let f : FreesPlaces workers d.active.turns.items d.active.slots.items d.first last = subst (λ b. IsWindow b workers d.active.turns.items d.active.slots.items d.first last) e w in
          subst (λ b. GivesUpTo items b workers (limit_in split comes items d) tale k) (sym e) (gives_freed workers last k tale d all s below_first room within f (omega (arith, from, lt)) lt)
