-- What a drive in no order has to give where two files are exchanged of which nothing was given.
use Rattle.std.proofs.Common.{◌≡◌, ℕ, suc, ◌+◌, ◌<◌, ◌≤◌, List, [], ◌∷◌, ◌++◌, length, map, Bool, true, false, ◌||◌, eqb, All, swap, Option, Some, None, refl, sym, ap, ◌∙◌, subst, arith, IsPermutation}
use Rattle.std.specs.List.{flat_map, range_with_len}
use Rattle.std.proofs.lemmas.Bool.Decides.{nat_tests}
use Rattle.std.proofs.lemmas.List.Edits.{length-swap}
use Rattle.std.proofs.lemmas.List.Folds.{flat_map-map}
use Rattle.std.proofs.lemmas.List.Sorted.{IsPermutation-sym, IsPermutation-trans, IsPermutation-map, IsPermutation-append_right}
use Rattle.scan_values.specs.Selections.{is_among}
use Rattle.scan_segments.specs.Source.{Store}
use Rattle.scan_splits.specs.Arrivals.{Arrivals}
use Rattle.scan_drive.specs.Actives.{SlotOk, groups_in, groups_left}
use Rattle.scan_drive.specs.Chunks.{given, IsOf}
use Rattle.scan_drive.specs.Files.{Part, Group, grouped, Told, told_at, untold, Tells, AllTell, over, part_in, part_over, part_groups, answer, answer_from, IfTold}
use Rattle.scan_drive.specs.Forward.{Spare, Rephased}
use Rattle.scan_drive.specs.Grants.{AreSame}
use Rattle.scan_drive.specs.Line.{exchange, relabelled}
use Rattle.scan_drive.specs.Phases.{phase_at, phase_left, work_groups, rest, rest_from, PhaseOk}
use Rattle.scan_drive.specs.Rounds.{Sound}
use Rattle.scan_drive.specs.Slots.{slot_at, slot_groups, stage_rows, StageOk}
use Rattle.scan_drive.specs.Splits.{SplitState, Event}
use Rattle.scan_drive.specs.declared.delivery.Chunk.{Chunk}
use Rattle.scan_drive.specs.declared.phase.Phase.{Phase}
use Rattle.scan_drive.specs.declared.phase.Phase.TheVariants as phase
use Rattle.scan_drive.specs.declared.round.Drive.{Drive}
use Rattle.scan_drive.specs.declared.slot.Slot.{Slot}
use Rattle.scan_drive.proofs.Exchanging.{exchange_before, exchange_twice, swap_at, swap_twice, all_swapped, both_swapped, numbers_permute}
use Rattle.scan_drive.proofs.ExchangedDrive.{spare_within, of_rephased, tally_swapped}
use Rattle.scan_drive.proofs.Same.{joined_alike}

-- ---- the same groups under another place
module _ {I : Type 0} (f : ℕ → ℕ) where
  pub relabel_append : (xs ys : List (Group I)) → map (relabelled f) (xs ++ ys) ≡ map (relabelled f) xs ++ map (relabelled f) ys
  relabel_append [] ys = refl
  relabel_append (x ∷ xs) ys = ap (λ zs. relabelled f x ∷ zs) (relabel_append xs ys)

  pub relabel_grouped : (file : ℕ) (rows : List I) → map (relabelled f) (grouped file rows) ≡ grouped (f file) rows
  relabel_grouped file [] = refl
  relabel_grouped file (x ∷ xs) = refl

  pub relabel_flat : {A : Type 0} (g h : A → List (Group I)) (xs : List A) → ((x : A) → map (relabelled f) (g x) ≡ h x) → map (relabelled f) (flat_map g xs) ≡ flat_map h xs
  relabel_flat g h [] e = refl
  relabel_flat g h (x ∷ xs) e = relabel_append (g x) (flat_map g xs) ∙ (let here = e x in let later = relabel_flat g h xs e in λ i. here i ++ later i)

  pub relabel_over : (o : Option Store) (g h : Store → List (Group I)) → ((store : Store) → map (relabelled f) (g store) ≡ h store) → map (relabelled f) (over o g) ≡ over o h
  relabel_over None g h e = refl
  relabel_over (Some store) g h e = e store

  pub relabel_part : (place : ℕ) (o : Option (Part I)) (s : Option Store) → map (relabelled f) (part_in place o s) ≡ part_in (f place) o s
  relabel_part place None s = refl
  relabel_part place (Some p) s = relabel_over s (part_over place p) (part_over (f place) p) (λ store. relabel_flat (grouped place) (grouped (f place)) (p.splits store) (relabel_grouped place))

  pub relabel_phase : {W F : Type 0} (split : W → SplitState I) (comes : W → Arrivals → Store → Event → Type 0) (place : ℕ) (t : Told I) (p : Phase W F) → map (relabelled f) (phase_left split comes place t p) ≡ phase_left split comes (f place) t p
  relabel_phase split comes place t phase.Unopened = relabel_part place t.part t.store
  relabel_phase split comes place t (phase.Held x) = relabel_part place t.part t.store
  relabel_phase split comes place t (phase.Queued ws rows) =
      relabel_flat (work_groups split comes place t) (work_groups split comes (f place) t) ws.items (λ w.
      relabel_over t.store (λ store. grouped place ((split w).rows store)) (λ store. grouped (f place) ((split w).rows store)) (λ store. relabel_grouped place ((split w).rows store)))

-- ---- the groups of files, by their places
module _ {I : Type 0} where
  answer_at : (place : ℕ) (ts : List (Told I)) (g : ℕ → List (Group I)) → ((k : ℕ) → part_groups (place + k) (told_at ts k) ≡ g (place + k)) → answer_from place ts ≡ flat_map g (range_with_len place (length ts))
  answer_at place [] g h = refl
  answer_at place (t ∷ ts) g h =
      let z : place + 0 ≡ place = omega arith in
      let here : part_groups place t ≡ g place = subst (λ m. part_groups m t ≡ g m) z (h 0) in
      let later = answer_at (place + 1) ts g (λ k. (let y : place + suc k ≡ place + 1 + k = omega arith in subst (λ m. part_groups m (told_at ts k) ≡ g m) y (h (suc k)))) in
      λ i. here i ++ later i

module _ {W I F : Type 0} (split : W → SplitState I) (comes : W → Arrivals → Store → Event → Type 0) where
  rest_at : (place : ℕ) (ts : List (Told I)) (ps : List (Phase W F)) (g : ℕ → List (Group I)) → length ps ≡ length ts → ((k : ℕ) → phase_left split comes (place + k) (told_at ts k) (phase_at ps k) ≡ g (place + k))
      → rest_from split comes place ts ps ≡ flat_map g (range_with_len place (length ts))
  rest_at place [] ps g l h = refl
  rest_at place (t ∷ ts) [] g l h = absurd (omega (arith, l))
  rest_at place (t ∷ ts) (p ∷ ps) g l h =
      let z : place + 0 ≡ place = omega arith in
      let here : phase_left split comes place t p ≡ g place = subst (λ m. phase_left split comes m t p ≡ g m) z (h 0) in
      let later = rest_at (place + 1) ts ps g (omega (arith, l)) (λ k. (let y : place + suc k ≡ place + 1 + k = omega arith in subst (λ m. phase_left split comes m (told_at ts k) (phase_at ps k) ≡ g m) y (h (suc k)))) in
      λ i. here i ++ later i

-- groups of places, two of which are exchanged, are those of the others
module _ {I : Type 0} (n i j : ℕ) (p : i < n) (q : j < n) where
  turned : (g h : ℕ → List (Group I)) → ((k : ℕ) → map (relabelled (exchange i j)) (g k) ≡ h (exchange i j k)) → IsPermutation (map (relabelled (exchange i j)) (flat_map g (range_with_len 0 n))) (flat_map h (range_with_len 0 n))
  turned g h e =
      subst (λ gs. IsPermutation gs (flat_map h (range_with_len 0 n)))
      (sym (relabel_flat (exchange i j) g (λ k. h (exchange i j k)) (range_with_len 0 n) e ∙ sym (flat_map-map h (exchange i j) (range_with_len 0 n))))
      (joined_alike h (map (exchange i j) (range_with_len 0 n)) (range_with_len 0 n) (numbers_permute n i j p q))

-- ---- what was given, and what active splits have to give
module _ {R I : Type 0} (items : R → List I) (f : ℕ → ℕ) (n : ℕ) (same : (k : ℕ) → k < n → f k ≡ k) where
  given_same : (chunks : List (Chunk R)) → All (IsOf n) chunks → map (relabelled f) (given items chunks) ≡ given items chunks
  given_same [] low = refl
  given_same (c ∷ cs) low =
      let here : map (relabelled f) (grouped c.file (items c.rows)) ≡ grouped c.file (items c.rows) = relabel_grouped f c.file (items c.rows) ∙ ap (λ k. grouped k (items c.rows)) (same c.file (low 0 c (omega arith))) in
      let later = given_same cs (λ k d lt. low (suc k) d (omega (arith, lt))) in
      relabel_append f (grouped c.file (items c.rows)) (given items cs) ∙ (λ i. here i ++ later i)

among_first : (x : ℕ) (xs : List ℕ) → is_among (x ∷ xs) x ≡ true
among_first x xs = let e : eqb x x ≡ true = grind (arith, nat_tests) in ap (λ b. b || is_among xs x) e

among_later : (x : ℕ) (xs : List ℕ) (y : ℕ) → is_among xs y ≡ true → is_among (x ∷ xs) y ≡ true
among_later x xs y h = go (eqb x y)
  where
    go : (b : Bool) → (b || is_among xs y) ≡ true
    go true = refl
    go false = h

module _ {W I R : Type 0} (split : W → SplitState I) (comes : W → Arrivals → Store → Event → Type 0) (items : R → List I) (i j : ℕ) (tale : List (Told I)) (p : i < length tale) (q : j < length tale) (apart : i ≤ j) where
  stays : (k : ℕ) → k < i → exchange i j k ≡ k
  stays k lt = exchange_before i i j k (omega arith) apart lt

  told_before : (k : ℕ) → k < i → told_at (swap tale i j) k ≡ told_at tale k
  told_before k lt = swap_at tale i j k untold p q ∙ ap (told_at tale) (stays k lt)

  slot_left : (s : Slot W R) → s.file < i → map (relabelled (exchange i j)) (slot_groups split comes items tale s) ≡ slot_groups split comes items (swap tale i j) s
  slot_left s lt =
      relabel_over (exchange i j) (told_at tale s.file).store (λ store. grouped s.file (stage_rows split comes items store s.stage)) (λ store. grouped s.file (stage_rows split comes items store s.stage))
      (λ store. relabel_grouped (exchange i j) s.file (stage_rows split comes items store s.stage) ∙ ap (λ k. grouped k (stage_rows split comes items store s.stage)) (stays s.file lt))
      ∙ ap (λ (t : Told I). over t.store (λ store. grouped s.file (stage_rows split comes items store s.stage))) (sym (told_before s.file lt))

  -- the turns, one after the other
  groups_same : (slots : List (Slot W R)) (turns : List ℕ) → ((place : ℕ) → is_among turns place ≡ true → (slot_at slots place).file < i)
      → map (relabelled (exchange i j)) (groups_in split comes items tale turns slots) ≡ groups_in split comes items (swap tale i j) turns slots
  groups_same slots [] low = refl
  groups_same slots (x ∷ xs) low =
      let here = slot_left (slot_at slots x) (low x (among_first x xs)) in
      let later = groups_same slots xs (λ place h. low place (among_later x xs place h)) in
      relabel_append (exchange i j) (slot_groups split comes items tale (slot_at slots x)) (groups_in split comes items tale xs slots) ∙ (λ k. here k ++ later k)

  slot_same : (s : Slot W R) → s.file < i → SlotOk split comes items tale s → SlotOk split comes items (swap tale i j) s
  slot_same s lt h = record {
    within = (let l = length-swap tale i j in let z = h.within in omega arith);
    stands = subst (λ t. IfTold t (λ x store. StageOk split comes items x store s.stage)) (sym (told_before s.file lt)) h.stands;
  }

-- ---- a drive
module _ {W R F I : Type 0} (split : W → SplitState I) (comes : W → Arrivals → Store → Event → Type 0) (items : R → List I) (i j : ℕ) (v w : Drive W R F) (r : Rephased (swap v.phases.items i j) v w) (s : Spare i j v.phases.items)
    (tale : List (Told I)) (l : length tale ≡ length v.phases.items) (free : v.ordered ≡ false) (low : (place : ℕ) → is_among v.active.turns.items place ≡ true → (slot_at v.active.slots.items place).file < i) (counted : v.tally.files ≤ i)
    (of : All (IsOf v.tally.files) v.chunks.items) (h : Sound split comes items tale v) where
  abbrev ps : List (Phase W F)
  ps = v.phases.items

  abbrev tale' : List (Told I)
  tale' = swap tale i j

  abbrev ps' : List (Phase W F)
  ps' = swap v.phases.items i j

  pp : i < length ps
  pp = spare_within i j v.phases.items s

  qp : j < length ps
  qp = s.within

  pt : i < length tale
  pt = omega (arith, pp, l)

  qt : j < length tale
  qt = omega (arith, qp, l)

  apart : i ≤ j
  apart = let z = s.apart in omega arith

  n : length tale' ≡ length tale
  n = length-swap tale i j

  told_now : AllTell tale' → AllTell tale
  told_now all = subst AllTell (swap_twice tale i j pt qt) (all_swapped Tells tale' i j (omega (arith, n, pt)) (omega (arith, n, qt)) all)

  -- what is told of the file at a place, and its phase, stand at the other
  told_is : (k : ℕ) → told_at tale k ≡ told_at tale' (exchange i j k)
  told_is k = sym (swap_at tale i j (exchange i j k) untold pt qt ∙ ap (told_at tale) (exchange_twice i j k))

  phase_is : (k : ℕ) → phase_at ps k ≡ phase_at ps' (exchange i j k)
  phase_is k = sym (swap_at ps i j (exchange i j k) phase.Unopened pp qp ∙ ap (phase_at ps) (exchange_twice i j k))

  -- the groups of all files, each under its other place
  answer_turned : IsPermutation (map (relabelled (exchange i j)) (answer tale)) (answer tale')
  answer_turned =
      let now : answer tale' ≡ flat_map (λ k. part_groups k (told_at tale' k)) (range_with_len 0 (length tale)) =
      answer_at 0 tale' (λ k. part_groups k (told_at tale' k)) (λ k. ap (λ m. part_groups (0 + k) (told_at tale' m)) (let z : k ≡ 0 + k = omega arith in z)) ∙ ap (λ m. flat_map (λ k. part_groups k (told_at tale' k)) (range_with_len 0 m)) n in
      let was : answer tale ≡ flat_map (λ k. part_groups k (told_at tale k)) (range_with_len 0 (length tale)) =
      answer_at 0 tale (λ k. part_groups k (told_at tale k)) (λ k. ap (λ m. part_groups (0 + k) (told_at tale m)) (let z : k ≡ 0 + k = omega arith in z)) in
      subst (λ gs. IsPermutation (map (relabelled (exchange i j)) gs) (answer tale')) (sym was)
      (subst (IsPermutation (map (relabelled (exchange i j)) (flat_map (λ k. part_groups k (told_at tale k)) (range_with_len 0 (length tale))))) (sym now)
      (turned (length tale) i j pt qt (λ k. part_groups k (told_at tale k)) (λ k. part_groups k (told_at tale' k))
      (λ k. relabel_part (exchange i j) k (told_at tale k).part (told_at tale k).store ∙ ap (part_groups (exchange i j k)) (told_is k))))

  abbrev left_at : List (Told I) → List (Phase W F) → ℕ → List (Group I)
  left_at ts xs k = phase_left split comes k (told_at ts k) (phase_at xs k)

  -- and what is left of them
  rest_turned : IsPermutation (map (relabelled (exchange i j)) (rest split comes tale ps)) (rest split comes tale' ps')
  rest_turned =
      let now : rest split comes tale' ps' ≡ flat_map (left_at tale' ps') (range_with_len 0 (length tale)) =
      rest_at split comes 0 tale' ps' (left_at tale' ps') (length-swap ps i j ∙ sym l ∙ sym n) (λ k. ap (λ m. phase_left split comes (0 + k) (told_at tale' m) (phase_at ps' m)) (let z : k ≡ 0 + k = omega arith in z))
      ∙ ap (λ m. flat_map (left_at tale' ps') (range_with_len 0 m)) n in
      let was : rest split comes tale ps ≡ flat_map (left_at tale ps) (range_with_len 0 (length tale)) =
      rest_at split comes 0 tale ps (left_at tale ps) (sym l) (λ k. ap (λ m. phase_left split comes (0 + k) (told_at tale m) (phase_at ps m)) (let z : k ≡ 0 + k = omega arith in z)) in
      subst (λ gs. IsPermutation (map (relabelled (exchange i j)) gs) (rest split comes tale' ps')) (sym was)
      (subst (IsPermutation (map (relabelled (exchange i j)) (flat_map (left_at tale ps) (range_with_len 0 (length tale))))) (sym now)
      (turned (length tale) i j pt qt (left_at tale ps) (left_at tale' ps')
      (λ k. relabel_phase (exchange i j) split comes k (told_at tale k) (phase_at ps k)
      ∙ ap (λ t. phase_left split comes (exchange i j k) t (phase_at ps k)) (told_is k)
      ∙ ap (phase_left split comes (exchange i j k) (told_at tale' (exchange i j k))) (phase_is k))))

  module _ (all : AllTell tale) where
    abbrev gave : List (Group I)
    gave = given items v.chunks.items

    abbrev left : List (Group I)
    left = groups_left split comes items tale v.active

    abbrev left' : List (Group I)
    left' = groups_left split comes items tale' v.active

    abbrev f : Group I → Group I
    f = relabelled (exchange i j)

    sums : IsPermutation (gave ++ (left ++ rest split comes tale ps)) (answer tale)
    sums = subst (λ b. AreSame b (gave ++ (left ++ rest split comes tale ps)) (answer tale)) free (h.sums all)

    -- what was given, and what active splits give, stays where it is
    front_same : map f (gave ++ (left ++ rest split comes tale ps)) ≡ gave ++ (left' ++ map f (rest split comes tale ps))
    front_same =
        let a : map f gave ≡ gave = given_same items (exchange i j) v.tally.files (λ k lt. exchange_before v.tally.files i j k counted (omega (arith, counted, apart)) lt) v.chunks.items of in
        let b : map f left ≡ left' = groups_same split comes items i j tale pt qt apart v.active.slots.items v.active.turns.items low in
        relabel_append (exchange i j) gave (left ++ rest split comes tale ps)
        ∙ (λ k. a k ++ relabel_append (exchange i j) left (rest split comes tale ps) k)
        ∙ ap (λ gs. gave ++ (gs ++ map f (rest split comes tale ps))) b

    sums' : IsPermutation (gave ++ (left' ++ rest split comes tale' ps')) (answer tale')
    sums' =
        IsPermutation-trans (gave ++ (left' ++ rest split comes tale' ps')) (gave ++ (left' ++ map f (rest split comes tale ps))) (answer tale')
        (IsPermutation-append_right gave (left' ++ rest split comes tale' ps') (left' ++ map f (rest split comes tale ps))
        (IsPermutation-append_right left' (rest split comes tale' ps') (map f (rest split comes tale ps)) (IsPermutation-sym (map f (rest split comes tale ps)) (rest split comes tale' ps') rest_turned)))
        (IsPermutation-trans (gave ++ (left' ++ map f (rest split comes tale ps))) (map f (answer tale)) (answer tale')
        (subst (λ gs. IsPermutation gs (map f (answer tale))) front_same (IsPermutation-map f (gave ++ (left ++ rest split comes tale ps)) (answer tale) sums))
        answer_turned)

  pub swap_sound : Sound split comes items (swap tale i j) w
  swap_sound = of_rephased i j v w r (Sound split comes items tale') (record {
    phases = λ k.
        subst (λ (xs : List (Phase W F)). PhaseOk split comes (told_at tale' k) (phase_at xs k)) (sym r.phases_are)
        (both_swapped (λ (t : Told I) (x : Phase W F). PhaseOk split comes t x) tale ps i j k untold phase.Unopened pt qt pp qp (h.phases (exchange i j k)));
    ok = λ place there. slot_same split comes items i j tale pt qt apart (slot_at v.active.slots.items place) (low place there) (h.ok place there);
    tally = tally_swapped tale v.tally i j counted (omega (arith, counted, apart)) pt qt h.tally;
    sums = λ all.
        subst (λ b. AreSame b (given items v.chunks.items ++ (groups_left split comes items tale' v.active ++ rest split comes tale' w.phases.items)) (answer tale')) (sym free)
        (subst (λ (xs : List (Phase W F)). IsPermutation (given items v.chunks.items ++ (groups_left split comes items tale' v.active ++ rest split comes tale' xs)) (answer tale')) (sym r.phases_are) (sums' (told_now all)));
  })
