-- What stands before a file's turn was given.
use Rattle.std.proofs.Common.{◌≡◌, ℕ, zero, suc, ◌+◌, ◌<◌, ◌≤◌, Bool, true, false, cond, not, ltb, List, [], ◌∷◌, ◌++◌, filter, get_or, drop, take, Option, Some, None, IsPermutation, inl, inr, refl, sym, ap, ◌∙◌, subst, arith, append_assoc, append-nil}
use Rattle.std.specs.Prelude.{◌⊎◌}
use Rattle.std.proofs.lemmas.Bool.{lt-ltb, le-ltb}
use Rattle.std.proofs.lemmas.List.Elements.{filter-append}
use Rattle.std.proofs.lemmas.List.Sorted.{IsPermutation-trans, IsPermutation-append_left, IsPermutation-filter_both}
use Rattle.std.specs.List.{flat_map}
use Rattle.scan_segments.specs.Source.{Store}
use Rattle.scan_splits.specs.Arrivals.{Arrivals}
use Rattle.scan_drive.specs.Actives.{groups_in, groups_left}
use Rattle.scan_drive.specs.Before.{IsDone, StopsBefore}
use Rattle.scan_drive.specs.Chunks.{given, limit_of, HasRoom, Fits, IsMore, IsHeld, IsDeliverFault}
use Rattle.scan_drive.specs.Drivings.{GivesBefore}
use Rattle.scan_drive.specs.Ends.{limit_in}
use Rattle.scan_drive.specs.Files.{Part, Group, grouped, over, Told, AllTell, part_in, part_over, part_groups, answer, answer_from, count}
use Rattle.scan_drive.specs.Grants.{AreSame}
use Rattle.scan_drive.specs.Order.{Rises}
use Rattle.scan_drive.specs.Phases.{phase_at, phase_left, work_groups, IsSpent, SpentBelow, rest, rest_from}
use Rattle.scan_drive.specs.Rounds.{Sound}
use Rattle.scan_drive.specs.Slots.{slot_at, stage_rows, slot_groups}
use Rattle.scan_drive.specs.Splits.{SplitState, Event}
use Rattle.scan_drive.specs.declared.active.Active.{Active}
use Rattle.scan_drive.specs.declared.delivery.Chunk.{Chunk}
use Rattle.scan_drive.specs.declared.delivery.DriveFault.{DriveFault}
use Rattle.scan_drive.specs.declared.delivery.DriveFault.TheVariants as fault
use Rattle.scan_drive.specs.declared.phase.Phase.{Phase}
use Rattle.scan_drive.specs.declared.phase.Phase.TheVariants as phase
use Rattle.scan_drive.specs.declared.round.Drive.{Drive}
use Rattle.scan_drive.specs.declared.settling.RoundFault.TheVariants as why
use Rattle.scan_drive.specs.declared.slot.Halt.{Halt}
use Rattle.scan_drive.specs.declared.slot.Halt.TheVariants as halt
use Rattle.scan_drive.specs.declared.slot.Slot.{Slot}
use Rattle.scan_drive.proofs.Handing.{le_or_lt}
use Rattle.scan_drive.proofs.Giving.{more_none}
use Rattle.scan_drive.proofs.Ordering.{rises_from, rises_ends, rises_front}
use Rattle.scan_drive.proofs.Resting.{spent_left}
use Rattle.scan_drive.proofs.Same.{passed_alike, same_behind, same_is, same_path, same_trans}

-- each group is of a file of which this holds
abbrev pub Of : {I : Type 0} → (ℕ → Type 0) → List (Group I) → Type 0
Of P [] = Unit {0}
Of P (g ∷ gs) = P g.0 × Of P gs

module _ {I : Type 0} (P : ℕ → Type 0) where
  pub of_append : (xs ys : List (Group I)) → Of P xs → Of P ys → Of P (xs ++ ys)
  of_append [] ys h k = k
  of_append (x ∷ xs) ys h k = (h.0, of_append xs ys h.1 k)

  pub of_grouped : (file : ℕ) (rows : List I) → P file → Of P (grouped file rows)
  of_grouped file [] p = tt
  of_grouped file (x ∷ xs) p = (p, tt)

  of_flat : {A : Type 0} (f : A → List (Group I)) (xs : List A) → ((x : A) → Of P (f x)) → Of P (flat_map f xs)
  of_flat f [] h = tt
  of_flat f (x ∷ xs) h = of_append (f x) (flat_map f xs) (h x) (of_flat f xs h)

  pub of_over : (o : Option Store) (f : Store → List (Group I)) → ((store : Store) → Of P (f store)) → Of P (over o f)
  of_over None f h = tt
  of_over (Some store) f h = h store

  pub of_part : (file : ℕ) (o : Option (Part I)) (s : Option Store) → P file → Of P (part_in file o s)
  of_part file None s p = tt
  of_part file (Some x) s p = of_over s (part_over file x) (λ store. of_flat (grouped file) (x.splits store) (λ rows. of_grouped file rows p))

module _ {I : Type 0} where
  -- all that is of files below one stands in front of all that is not
  front : (k : ℕ) (gs ls xs ys : List (Group I)) → gs ++ ls ≡ xs ++ ys → Of (λ n. k ≤ n) ls → Of (λ n. n < k) xs → (more : List (Group I)) × (gs ≡ xs ++ more)
  front k gs ls [] ys e l a = (gs, refl)
  front k [] ls (x ∷ xs) ys e l a =
      let here : Of (λ n. k ≤ n) (x ∷ (xs ++ ys)) = subst (Of (λ n. k ≤ n)) e l in
      let from = here.0 in
      let below = a.0 in
      absurd (omega (arith, from, below))
  front k (g ∷ gs) ls (x ∷ xs) ys e l a =
      let later = front k gs ls xs ys (ap (drop 1) e) l a.1 in
      let same : g ≡ x = ap (λ (zs : List (Group I)). get_or zs 0 g) e in
      (later.0, λ i. same i ∷ later.1 i)

  -- those below one are all that pass the test, and no other is
  passed : (k : ℕ) (gs : List (Group I)) → Of (λ n. n < k) gs → filter (λ (g : Group I). ltb g.0 k) gs ≡ gs
  passed k [] h = refl
  passed k (g ∷ gs) h = ap (λ b. cond b (g ∷ filter (λ (x : Group I). ltb x.0 k) gs) (filter (λ (x : Group I). ltb x.0 k) gs)) (lt-ltb g.0 k h.0) ∙ ap (λ xs. g ∷ xs) (passed k gs h.1)

  none_passed : (k : ℕ) (gs : List (Group I)) → Of (λ n. k ≤ n) gs → filter (λ (g : Group I). ltb g.0 k) gs ≡ []
  none_passed k [] h = refl
  none_passed k (g ∷ gs) h = ap (λ b. cond b (g ∷ filter (λ (x : Group I). ltb x.0 k) gs) (filter (λ (x : Group I). ltb x.0 k) gs)) (le-ltb g.0 k h.0) ∙ none_passed k gs h.1

  -- of these and others, those below one are these
  below_in : (k : ℕ) (xs ys : List (Group I)) → Of (λ n. k ≤ n) ys → filter (λ (g : Group I). ltb g.0 k) (xs ++ ys) ≡ filter (λ (g : Group I). ltb g.0 k) xs
  below_in k xs ys h = filter-append (λ (g : Group I). ltb g.0 k) xs ys ∙ ap (λ zs. filter (λ (g : Group I). ltb g.0 k) xs ++ zs) (none_passed k ys h) ∙ append-nil (filter (λ (g : Group I). ltb g.0 k) xs)

  -- in no order it is among it
  front_any : (k : ℕ) (gs ls xs ys : List (Group I)) → IsPermutation (gs ++ ls) (xs ++ ys) → Of (λ n. k ≤ n) ls → Of (λ n. n < k) xs → Of (λ n. k ≤ n) ys → (more : List (Group I)) × IsPermutation gs (xs ++ more)
  front_any k gs ls xs ys e l a b =
      let p : Group I → Bool = λ g. ltb g.0 k in
      let q : Group I → Bool = λ g. not (p g) in
      let same : IsPermutation (filter p gs) xs =
      subst (IsPermutation (filter p gs)) (below_in k xs ys b ∙ passed k xs a) (subst (λ zs. IsPermutation zs (filter p (xs ++ ys))) (below_in k gs ls l) (passed_alike p (gs ++ ls) (xs ++ ys) e)) in
      (filter q gs, IsPermutation-trans gs (filter p gs ++ filter q gs) (xs ++ filter q gs) (IsPermutation-filter_both p q (λ g. refl) gs) (IsPermutation-append_left (filter q gs) (filter p gs) xs same))

  -- in order or in none
  front_same : (b : Bool) (k : ℕ) (gs ls xs ys : List (Group I)) → AreSame b (gs ++ ls) (xs ++ ys) → Of (λ n. k ≤ n) ls → Of (λ n. n < k) xs → Of (λ n. k ≤ n) ys → (more : List (Group I)) × AreSame b gs (xs ++ more)
  front_same true k gs ls xs ys e l a b = front k gs ls xs ys e l a
  front_same false k gs ls xs ys e l a b = front_any k gs ls xs ys e l a b

  -- the groups of the first files, and those of the others
  answer_split : (place n : ℕ) (ts : List (Told I)) → answer_from place ts ≡ answer_from place (take n ts) ++ answer_from (place + n) (drop n ts)
  answer_split place zero ts = let z : place ≡ place + 0 = omega arith in ap (λ m. answer_from m ts) z
  answer_split place (suc n) [] = refl
  answer_split place (suc n) (t ∷ ts) =
      let z : place + 1 + n ≡ place + suc n = omega arith in
      ap (λ gs. part_groups place t ++ gs) (answer_split (place + 1) n ts)
      ∙ sym (append_assoc (part_groups place t) (answer_from (place + 1) (take n ts)) (answer_from (place + 1 + n) (drop n ts)))
      ∙ ap (λ m. (part_groups place t ++ answer_from (place + 1) (take n ts)) ++ answer_from m (drop n ts)) z

  answer_front : (k : ℕ) (tale : List (Told I)) → answer tale ≡ answer (take k tale) ++ answer_from k (drop k tale)
  answer_front k tale = let z : 0 + k ≡ k = omega arith in answer_split 0 k tale ∙ ap (λ m. answer (take k tale) ++ answer_from m (drop k tale)) z

  -- the first files are below
  answer_below : (place n k : ℕ) (ts : List (Told I)) → place + n ≤ k → Of (λ m. m < k) (answer_from place (take n ts))
  answer_below place zero k ts le = tt
  answer_below place (suc n) k [] le = tt
  answer_below place (suc n) k (t ∷ ts) le =
      of_append (λ m. m < k) (part_groups place t) (answer_from (place + 1) (take n ts)) (of_part (λ m. m < k) place t.part t.store (omega (arith, le))) (answer_below (place + 1) n k ts (omega (arith, le)))

  -- the others are not
  answer_above : (k place : ℕ) (ts : List (Told I)) → k ≤ place → Of (λ m. k ≤ m) (answer_from place ts)
  answer_above k place [] le = tt
  answer_above k place (t ∷ ts) le = of_append (λ m. k ≤ m) (part_groups place t) (answer_from (place + 1) ts) (of_part (λ m. k ≤ m) place t.part t.store le) (answer_above k (place + 1) ts (omega (arith, le)))

  take_less : (n m : ℕ) (ts : List (Told I)) → n ≤ m → take n (take m ts) ≡ take n ts
  take_less zero m ts le = refl
  take_less (suc n) zero ts le = absurd (omega (arith, le))
  take_less (suc n) (suc m) [] le = refl
  take_less (suc n) (suc m) (t ∷ ts) le = ap (λ us. t ∷ us) (take_less n m ts (omega (arith, le)))

  -- what is given before a file is so before each file before it
  pub gives_less : {R : Type 0} (items : R → List I) (b : Bool) (limit : Option ℕ) (tale : List (Told I)) (k m : ℕ) → k ≤ m → GivesBefore items b limit tale m → GivesBefore items b limit tale k
  gives_less items b limit tale k m le g = record {
    chunks = g.chunks;
    more = answer_from k (drop k (take m tale)) ++ g.more;
    groups = same_trans b (given items g.chunks) (answer (take m tale) ++ g.more) (answer (take k tale) ++ (answer_from k (drop k (take m tale)) ++ g.more)) g.groups
        (same_is b (answer (take m tale) ++ g.more) (answer (take k tale) ++ (answer_from k (drop k (take m tale)) ++ g.more))
        (ap (λ gs. gs ++ g.more) (answer_front k (take m tale) ∙ ap (λ ts. answer ts ++ answer_from k (drop k (take m tale))) (take_less k m tale le))
        ∙ append_assoc (answer (take k tale)) (answer_from k (drop k (take m tale))) g.more));
    room = g.room;
  }

pub fits : (n : ℕ) (left : Option ℕ) → HasRoom left → Fits n (limit_of n left)
fits n None h = tt
fits n (Some m) h = let b : 0 < m = h in omega (arith, b)

module _ {W I R : Type 0} (split : W → SplitState I) (comes : W → Arrivals → Store → Event → Type 0) (items : R → List I) where
  -- active splits in order have groups of their files alone
  left_from : (tale : List (Told I)) (i last : ℕ) (turns : List ℕ) (slots : List (Slot W R)) → Rises i last turns slots → Of (λ n. i ≤ n) (groups_in split comes items tale turns slots)
  left_from tale i last [] slots h = tt
  left_from tale i last (p ∷ ps) slots h =
      let s = slot_at slots p in
      of_append (λ n. i ≤ n) (slot_groups split comes items tale s) (groups_in split comes items tale ps slots)
      (of_over (λ n. i ≤ n) (Rattle.scan_drive.specs.Files.told_at tale s.file).store (λ store. grouped s.file (stage_rows split comes items store s.stage)) (λ store. of_grouped (λ n. i ≤ n) s.file (stage_rows split comes items store s.stage) h.0))
      (left_from tale i last ps slots (rises_from s.file i last ps slots h.0 h.1))

module _ {W I F : Type 0} (split : W → SplitState I) (comes : W → Arrivals → Store → Event → Type 0) where
  phase_from : (k place : ℕ) (t : Told I) (p : Phase W F) → k ≤ place → Of (λ n. k ≤ n) (phase_left split comes place t p)
  phase_from k place t phase.Unopened le = of_part (λ n. k ≤ n) place t.part t.store le
  phase_from k place t (phase.Held f) le = of_part (λ n. k ≤ n) place t.part t.store le
  phase_from k place t (phase.Queued ws rows) le =
      of_flat (λ n. k ≤ n) (work_groups split comes place t) ws.items (λ w. of_over (λ n. k ≤ n) t.store (λ store. grouped place ((split w).rows store)) (λ store. of_grouped (λ n. k ≤ n) place ((split w).rows store) le))

  -- files without splits have none
  pub rest_after : (k place : ℕ) (ts : List (Told I)) (ps : List (Phase W F)) → ((n : ℕ) → place + n < k → IsSpent (phase_at ps n)) → Of (λ n. k ≤ n) (rest_from split comes place ts ps)
  rest_after k place [] ps h = tt
  rest_after k place (t ∷ ts) [] h = tt
  rest_after k place (t ∷ ts) (p ∷ ps) h =
      of_append (λ n. k ≤ n) (phase_left split comes place t p) (rest_from split comes (place + 1) ts ps) (go (le_or_lt k place)) (rest_after k (place + 1) ts ps (λ n lt. h (suc n) (omega (arith, lt))))
    where
      go : (k ≤ place) ⊎ (place < k) → Of (λ n. k ≤ n) (phase_left split comes place t p)
      go (inl le) = phase_from k place t p le
      go (inr lt) = subst (Of (λ n. k ≤ n)) (sym (spent_left split comes place t p (h 0 (omega (arith, lt))))) tt

module _ {W I R F : Type 0} (split : W → SplitState I) (comes : W → Arrivals → Store → Event → Type 0) (items : R → List I) where
  -- the active splits, and the files that have splits left, are of no file before this one: those before it were given
  pub gives_before : (tale : List (Told I)) (d : Drive W R F) (a : Active W R) (chunks : List (Chunk R)) (left : Option ℕ) (k : ℕ) → AllTell tale → Sound split comes items tale d → SpentBelow d.phases.items d.first → k ≤ d.first →
      IsMore split comes items d.ordered d.active a d.chunks.items chunks d.left left → Of (λ n. k ≤ n) (groups_left split comes items tale a) → GivesBefore items d.ordered (limit_in split comes items d) tale k
  gives_before tale d a chunks left k all s below le m h = record {
    chunks = chunks;
    more = got.0;
    groups = got.1;
    room = subst (Fits (count (given items chunks))) m.counts.limit (fits (count (given items chunks)) left m.counts.room);
  }
    where
      old : List (Group I)
      old = groups_left split comes items tale d.active

      now : List (Group I)
      now = groups_left split comes items tale a

      others : List (Group I)
      others = rest split comes tale d.phases.items

      here : List (Group I)
      here = given items chunks

      was : List (Group I)
      was = given items d.chunks.items

      parts : List (Group I)
      parts = answer (take k tale) ++ answer_from k (drop k tale)

      same : AreSame d.ordered (here ++ (now ++ others)) parts
      same = same_path d.ordered (here ++ (now ++ others)) ((here ++ now) ++ others) parts (sym (append_assoc here now others))
          (same_trans d.ordered ((here ++ now) ++ others) ((was ++ old) ++ others) parts (same_behind d.ordered (here ++ now) (was ++ old) others (m.groups tale all s.ok))
          (same_path d.ordered ((was ++ old) ++ others) (was ++ (old ++ others)) parts (append_assoc was old others)
          (subst (AreSame d.ordered (was ++ (old ++ others))) (answer_front k tale) (s.sums all))))

      got : (more : List (Group I)) × AreSame d.ordered here (answer (take k tale) ++ more)
      got =
          front_same d.ordered k here (now ++ others) (answer (take k tale)) (answer_from k (drop k tale)) same
          (of_append (λ n. k ≤ n) now others h (rest_after split comes k 0 tale d.phases.items (λ n lt. below n (omega (arith, lt, le)))))
          (answer_below 0 k k tale (omega arith)) (answer_above k k (drop k tale) (omega arith))

  -- in the order of their files
  pub gives_in_order : (tale : List (Told I)) (d : Drive W R F) (a : Active W R) (chunks : List (Chunk R)) (left : Option ℕ) (k : ℕ) → AllTell tale → Sound split comes items tale d → SpentBelow d.phases.items d.first →
      IsMore split comes items d.ordered d.active a d.chunks.items chunks d.left left → Rises k d.first a.turns.items a.slots.items → GivesBefore items d.ordered (limit_in split comes items d) tale k
  gives_in_order tale d a chunks left k all s below m h =
      gives_before tale d a chunks left k all s below (rises_ends k d.first a.turns.items a.slots.items h) m (left_from split comes items tale k d.first a.turns.items a.slots.items h)

  -- where no split is active
  pub gives_idle : (tale : List (Told I)) (d : Drive W R F) (a : Active W R) (chunks : List (Chunk R)) (left : Option ℕ) → AllTell tale → Sound split comes items tale d → SpentBelow d.phases.items d.first →
      IsMore split comes items d.ordered d.active a d.chunks.items chunks d.left left → a.turns.items ≡ [] → GivesBefore items d.ordered (limit_in split comes items d) tale d.first
  gives_idle tale d a chunks left all s below m none =
      let low : d.first ≤ d.first = omega arith in
      gives_in_order tale d a chunks left d.first all s below m (subst (λ ts. Rises d.first d.first ts a.slots.items) (sym none) low)

  -- what a round has given before it polls openers
  pub gives_done : (tale : List (Told I)) (d : Drive W R F) (k : ℕ) → AllTell tale → Sound split comes items tale d → SpentBelow d.phases.items d.first → HasRoom d.left → Rises 0 d.first d.active.turns.items d.active.slots.items →
      IsDone d.active.turns.items d.active.slots.items d.first k → GivesBefore items d.ordered (limit_in split comes items d) tale k
  gives_done tale d k all s below room order done = go done
    where
      none : IsMore split comes items d.ordered d.active d.active d.chunks.items d.chunks.items d.left d.left
      none = more_none split comes items d.ordered d.active d.chunks.items d.left room

      go : IsDone d.active.turns.items d.active.slots.items d.first k → GivesBefore items d.ordered (limit_in split comes items d) tale k
      go (inl e) = subst (GivesBefore items d.ordered (limit_in split comes items d) tale) (sym e.1) (gives_idle tale d d.active d.chunks.items d.left all s below none e.0)
      go (inr f) = subst (GivesBefore items d.ordered (limit_in split comes items d) tale) f.file_is
          (gives_in_order tale d d.active d.chunks.items d.left (slot_at d.active.slots.items f.place).file all s below none (rises_front 0 d.first f.place f.later d.active.turns.items d.active.slots.items f.turns_are order))

  -- at the turn of a split that was given up, in order
  held_before : (tale : List (Told I)) (d : Drive W R F) (a : Active W R) (chunks : List (Chunk R)) (left : Option ℕ) (file : ℕ) (h : Halt) → d.ordered ≡ true → AllTell tale → Sound split comes items tale d → SpentBelow d.phases.items d.first →
      Rises 0 d.first d.active.turns.items d.active.slots.items → IsHeld split comes items file h d.active a d.chunks.items chunks d.left left → GivesBefore items true (limit_in split comes items d) tale file
  held_before tale d a chunks left file h o all s below order x =
      let e : (slot_at a.slots.items x.turn.place).file ≡ file = ap (λ (y : Slot W R). y.file) x.turn.was in
      let more : IsMore split comes items d.ordered d.active a d.chunks.items chunks d.left left = subst (λ b. IsMore split comes items b d.active a d.chunks.items chunks d.left left) (sym o) x.more in
      subst (λ b. GivesBefore items b (limit_in split comes items d) tale file) o (subst (GivesBefore items d.ordered (limit_in split comes items d) tale) e
      (gives_in_order tale d a chunks left (slot_at a.slots.items x.turn.place).file all s below more (rises_front 0 d.first x.turn.place x.turn.later a.turns.items a.slots.items x.turn.turns (x.more.order 0 d.first order))))

  pub split_before : (tale : List (Told I)) (d : Drive W R F) (a : Active W R) (chunks : List (Chunk R)) (left : Option ℕ) (e : DriveFault) → d.ordered ≡ true → AllTell tale → Sound split comes items tale d → SpentBelow d.phases.items d.first →
      Rises 0 d.first d.active.turns.items d.active.slots.items → IsDeliverFault split comes items d.active a d.chunks.items chunks d.left left e → StopsBefore items {F = F} (limit_in split comes items d) tale (why.Split e)
  split_before tale d a chunks left fault.NoMemory o all s below order x = tt
  split_before tale d a chunks left (fault.Source file id) o all s below order x = held_before tale d a chunks left file (halt.Source id) o all s below order x
  split_before tale d a chunks left (fault.Corrupt file id) o all s below order x = held_before tale d a chunks left file (halt.Corrupt id) o all s below order x
  split_before tale d a chunks left (fault.Overflow file) o all s below order x = held_before tale d a chunks left file halt.Overflow o all s below order x
