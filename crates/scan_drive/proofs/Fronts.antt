-- Fronts of what is given: what was given before is given under a limit that is no higher.
use Rattle.std.proofs.Common.{◌≡◌, ℕ, suc, zero, ◌+◌, ◌-◌, ◌<◌, ◌≤◌, List, [], ◌∷◌, ◌++◌, length, take, min, Bool, true, false, Option, Some, None, inl, inr, refl, sym, ap, ◌∙◌, subst, arith, append_assoc, append-nil, IsPermutation}
use Rattle.std.specs.Prelude.{◌⊎◌}
use Rattle.std.proofs.lemmas.Grind.{flat_map-append}
use Rattle.std.proofs.lemmas.List.Sorted.{IsPermutation-refl}
use Rattle.scan_segments.specs.Source.{Store}
use Rattle.scan_splits.specs.Arrivals.{Arrivals}
use Rattle.scan_drive.specs.Actives.{groups_left}
use Rattle.scan_drive.specs.Chunks.{given, chunk_groups, limit_of, KeepsRows, IsMore, IsHeld, IsDeliverFault}
use Rattle.scan_drive.specs.Ends.{limit_in, gives_first}
use Rattle.scan_drive.specs.Files.{Group, grouped, count, cut, limited, Told, AllTell, answer}
use Rattle.scan_drive.specs.Grants.{AreSame, AreGiven, AreFronts, AreSome, Allows, IsGivenFront}
use Rattle.scan_drive.specs.Phases.{rest}
use Rattle.scan_drive.specs.Rounds.{Sound}
use Rattle.scan_drive.specs.Splits.{SplitState, Event}
use Rattle.scan_drive.specs.declared.active.Active.{Active}
use Rattle.scan_drive.specs.declared.delivery.Chunk.{Chunk}
use Rattle.scan_drive.specs.declared.delivery.DriveFault.{DriveFault}
use Rattle.scan_drive.specs.declared.delivery.DriveFault.TheVariants as fault
use Rattle.scan_drive.specs.declared.settling.RoundFault.TheVariants as why
use Rattle.scan_drive.specs.declared.slot.Halt.{Halt}
use Rattle.scan_drive.specs.declared.slot.Halt.TheVariants as halt
use Rattle.scan_drive.specs.declared.round.Drive.{Drive}
use Rattle.scan_drive.proofs.Giving.{count_append, cut_zero, take_all, take_some, cut_group, cut_within, cut_past}
use Rattle.scan_drive.proofs.Handing.{le_or_lt}
use Rattle.scan_drive.proofs.Same.{same_path, same_trans, same_behind, rows_any, rows_cut, fronts_itself}

module _ {I : Type 0} where
  take_less : (n m : ℕ) (xs : List I) → n ≤ m → take n (take m xs) ≡ take n xs
  take_less zero m xs le = refl
  take_less (suc n) zero xs le = absurd (omega arith)
  take_less (suc n) (suc m) [] le = refl
  take_less (suc n) (suc m) (x ∷ xs) le = ap (λ ys. x ∷ ys) (take_less n m xs (omega arith))

  -- what is left of a limit that is met is nothing
  none_after : (n k : ℕ) (gs : List (Group I)) → n ≤ k → cut (n - k) gs ≡ []
  none_after n k gs le = let z : n - k ≡ 0 = omega arith in ap (λ m. cut m gs) z ∙ cut_zero gs

  -- a limit under another one
  pub cut_under : (n m : ℕ) (gs : List (Group I)) → n ≤ m → cut n (cut m gs) ≡ cut n gs
  cut_under n m [] le = refl
  cut_under n m (g ∷ gs) le = go (λ a b l. cut_under a b gs l) (le_or_lt (length g.1) m)
    where
      xs : List I
      xs = g.1

      ends : n ≤ length xs → grouped g.0 (take n xs) ≡ cut n (g ∷ gs)
      ends short = sym (append-nil (grouped g.0 (take n xs))) ∙ ap (λ hs. grouped g.0 (take n xs) ++ hs) (sym (none_after n (length xs) gs short))

      whole : length xs ≤ m → cut m (g ∷ gs) ≡ grouped g.0 xs ++ cut (m - length xs) gs
      whole long = ap (λ ys. grouped g.0 ys ++ cut (m - length xs) gs) (take_all xs m long)

      past : ((a b : ℕ) → a ≤ b → cut a (cut b gs) ≡ cut a gs) → length xs ≤ m → (length xs ≤ n) ⊎ (n < length xs) → cut n (cut m (g ∷ gs)) ≡ cut n (g ∷ gs)
      past ih long (inr lt) = ap (cut n) (whole long) ∙ cut_within g.0 xs n (cut (m - length xs) gs) (omega arith) ∙ ends (omega arith)
      past ih long (inl over) =
          let on : n ≡ length xs + (n - length xs) = omega arith in
          ap (cut n) (whole long)
          ∙ ap (λ k. cut k (grouped g.0 xs ++ cut (m - length xs) gs)) on
          ∙ cut_group g.0 xs (n - length xs) (cut (m - length xs) gs)
          ∙ ap (λ hs. grouped g.0 xs ++ hs) (ih (n - length xs) (m - length xs) (omega arith))
          ∙ ap (λ ys. grouped g.0 ys ++ cut (n - length xs) gs) (sym (take_all xs n over))

      go : ((a b : ℕ) → a ≤ b → cut a (cut b gs) ≡ cut a gs) → (length xs ≤ m) ⊎ (m < length xs) → cut n (cut m (g ∷ gs)) ≡ cut n (g ∷ gs)
      go ih (inl long) = past ih long (le_or_lt (length xs) n)
      go ih (inr lt) =
          let some : length (take m xs) ≡ m = take_some xs m (omega arith) in
          ap (λ hs. cut n (grouped g.0 (take m xs) ++ hs)) (none_after m (length xs) gs (omega arith))
          ∙ cut_within g.0 (take m xs) n [] (omega (arith, some, le))
          ∙ ap (grouped g.0) (take_less n m xs le)
          ∙ ends (omega arith)

  -- fronts of two lists of groups, one behind the other
  pub record Halves (gs hs whole : List (Group I)) : Type 0 where
    pub first : List (Group I)
    pub second : List (Group I)
    pub both : first ++ second ≡ whole
    pub fronts : AreFronts gs first

  halved : (gs hs ws : List (Group I)) → AreFronts (gs ++ hs) ws → Halves gs hs ws
  halved [] hs ws h = record { first = []; second = ws; both = refl; fronts = tt }
  halved (g ∷ gs) hs [] h = absurd h
  halved (g ∷ gs) hs (w ∷ ws) h = let r = halved gs hs ws h.1 in record { first = w ∷ r.first; second = r.second; both = ap (λ vs. w ∷ vs) r.both; fronts = (h.0, r.fronts) }

  few_limited : (limit : Option ℕ) (gs : List (Group I)) (n : ℕ) → n ≤ count (limited limit gs) → Allows limit n × (n ≤ count gs)
  few_limited None gs n le = (tt, le)
  few_limited (Some m) gs n le =
      let r = rows_cut m gs in
      let few : n ≤ count (cut m gs) = le in
      (omega (arith, r, few), omega (arith, r, few))

  -- the same groups are given without a limit
  pub given_same_all : (b : Bool) (gs all : List (Group I)) → AreSame b gs all → AreGiven b None all gs
  given_same_all true gs all h = h
  given_same_all false gs all h = record {
    whole = gs;
    others = [];
    among = subst (λ xs. IsPermutation xs all) (sym (append-nil gs)) h;
    fronts = fronts_itself gs;
    rows = rows_any gs all h;
    free = λ none. h;
  }

module _ {I R : Type 0} (items : R → List I) where
  pub given_append : (us vs : List (Chunk R)) → given items (us ++ vs) ≡ given items us ++ given items vs
  given_append us vs = flat_map-append (chunk_groups items) us vs

  -- chunks that stand before what was given
  module _ (limit : Option ℕ) (all : List (Group I)) (us : List (Chunk R)) (hs : List (Group I)) where
    abbrev gs : List (Group I)
    gs = given items us

    first_rows : gs ≡ cut (count gs) (gs ++ hs)
    first_rows =
        let z : count gs ≡ count gs + 0 = omega arith in
        sym (append-nil gs) ∙ ap (λ xs. gs ++ xs) (sym (cut_zero hs)) ∙ sym (cut_past items us 0 hs) ∙ ap (λ n. cut n (gs ++ hs)) (sym z)

    in_order : (l : Option ℕ) → gs ++ hs ≡ limited l all → count gs ≤ count (limited l all) → gs ≡ cut (count gs) all
    in_order None e le = first_rows ∙ ap (cut (count gs)) e
    in_order (Some m) e le = first_rows ∙ ap (cut (count gs)) e ∙ cut_under (count gs) m all (let r = rows_cut m all in let low : count gs ≤ count (cut m all) = le in omega (arith, r, low))

    few : (b : Bool) → AreGiven b limit all (gs ++ hs) → count gs ≤ count (limited limit all)
    few true h = let e = ap count h in let a = count_append gs hs in omega (arith, e, a)
    few false h = let e = h.rows in let a = count_append gs hs in omega (arith, e, a)

    pub given_before : (b : Bool) → AreGiven b limit all (gs ++ hs) → AreGiven b (Some (count gs)) all gs
    given_before true h = in_order limit h (few true h)
    given_before false h =
        let r = halved gs hs h.whole h.fronts in
        record {
          whole = r.first;
          others = r.second ++ h.others;
          among = subst (λ xs. IsPermutation xs all) (sym (sym (append_assoc r.first r.second h.others) ∙ ap (λ ws. ws ++ h.others) r.both)) h.among;
          fronts = r.fronts;
          rows = (let n = (few_limited limit all (count gs) (few false h)).1 in let least : min (count gs) (count all) ≡ count gs = omega (arith, n) in sym (rows_cut (count gs) all ∙ least));
          free = λ none. absurd (never none);
        }
      where
        never : ◌≡◌ {A = Option ℕ} (Some (count gs)) None → ⊥
        never e = cc

    pub front_given : (b : Bool) → AreGiven b limit all (gs ++ hs) → IsGivenFront b limit all gs
    front_given b h = record { most = count gs; within = (few_limited limit all (count gs) (few b h)).0; given = given_before b h }

  -- nothing is a front
  pub front_none : (b : Bool) (limit : Option ℕ) (all : List (Group I)) → IsGivenFront b limit all []
  front_none b limit all = record { most = 0; within = least limit; given = go b }
    where
      least : (l : Option ℕ) → Allows l 0
      least None = tt
      least (Some m) = omega arith

      never : ◌≡◌ {A = Option ℕ} (Some 0) None → ⊥
      never e = cc

      go : (c : Bool) → AreGiven c (Some 0) all []
      go true = sym (cut_zero all)
      go false = record {
        whole = [];
        others = all;
        among = IsPermutation-refl all;
        fronts = tt;
        rows = ap count (sym (cut_zero all));
        free = λ none. absurd (never none);
      }

  -- under the same flag and limit
  pub front_along : (b c : Bool) (l m : Option ℕ) (all gs : List (Group I)) → c ≡ b → m ≡ l → IsGivenFront c m all gs → IsGivenFront b l all gs
  front_along b c l m all gs o e h = subst (λ f. IsGivenFront f l all gs) o (subst (λ n. IsGivenFront c n all gs) e h)

  -- and so it is where all is given
  pub front_done : (b : Bool) (limit : Option ℕ) (all : List (Group I)) (cs us vs : List (Chunk R)) → cs ≡ us ++ vs → AreGiven b limit all (given items cs) → IsGivenFront b limit all (given items us)
  front_done b limit all cs us vs e h = front_given limit all us (given items vs) b (subst (λ gs. AreGiven b limit all gs) (ap (given items) e ∙ given_append us vs) h)

module _ {W I R F : Type 0} (split : W → SplitState I) (comes : W → Arrivals → Store → Event → Type 0) (items : R → List I) where
  -- what a sound drive has given is a front of the answer
  pub front_sound : (tale : List (Told I)) (v : Drive W R F) (us vs : List (Chunk R)) → v.chunks.items ≡ us ++ vs → AllTell tale → Sound split comes items tale v
      → IsGivenFront v.ordered (limit_in split comes items v) (answer tale) (given items us)
  front_sound tale v us vs e all s = record {
    most = count (given items us);
    within = allowed v.left;
    given = given_before items None (answer tale) us (given items vs ++ others) v.ordered
        (given_same_all v.ordered (given items us ++ (given items vs ++ others)) (answer tale)
        (same_path v.ordered (given items us ++ (given items vs ++ others)) (given items v.chunks.items ++ others) (answer tale)
        (sym (append_assoc (given items us) (given items vs) others) ∙ ap (λ gs. gs ++ others) (sym parts)) (s.sums all)));
  }
    where
      others : List (Group I)
      others = groups_left split comes items tale v.active ++ rest split comes tale v.phases.items

      parts : given items v.chunks.items ≡ given items us ++ given items vs
      parts = ap (given items) e ∙ given_append items us vs

      allowed : (l : Option ℕ) → Allows (limit_of (count (given items v.chunks.items)) l) (count (given items us))
      allowed None = tt
      allowed (Some n) = let p = ap count parts in let a = count_append (given items us) (given items vs) in omega (arith, p, a)

  -- rows were given, of a drive that was sound
  pub front_more : (tale : List (Told I)) (d : Drive W R F) (a : Active W R) (chunks : List (Chunk R)) (left : Option ℕ) → IsMore split comes items d.ordered d.active a d.chunks.items chunks d.left left → AllTell tale
      → Sound split comes items tale d → IsGivenFront d.ordered (limit_in split comes items d) (answer tale) (given items chunks)
  front_more tale d a chunks left m all s = record {
    most = count (given items chunks);
    within = subst (λ l. Allows l (count (given items chunks))) m.counts.limit (enough left);
    given = given_before items None (answer tale) chunks (left_now ++ others) d.ordered
        (given_same_all d.ordered (given items chunks ++ (left_now ++ others)) (answer tale)
        (same_path d.ordered (given items chunks ++ (left_now ++ others)) ((given items chunks ++ left_now) ++ others) (answer tale) (sym (append_assoc (given items chunks) left_now others))
        (same_trans d.ordered ((given items chunks ++ left_now) ++ others) ((given items d.chunks.items ++ left_was) ++ others) (answer tale)
        (same_behind d.ordered (given items chunks ++ left_now) (given items d.chunks.items ++ left_was) others (m.groups tale all s.ok))
        (same_path d.ordered ((given items d.chunks.items ++ left_was) ++ others) (given items d.chunks.items ++ (left_was ++ others)) (answer tale) (append_assoc (given items d.chunks.items) left_was others) (s.sums all)))));
  }
    where
      left_now : List (Group I)
      left_now = groups_left split comes items tale a

      left_was : List (Group I)
      left_was = groups_left split comes items tale d.active

      others : List (Group I)
      others = rest split comes tale d.phases.items

      enough : (l : Option ℕ) → Allows (limit_of (count (given items chunks)) l) (count (given items chunks))
      enough None = tt
      enough (Some n) = omega arith

  -- what was given, whatever else has become of the drive
  pub record GaveFront (tale : List (Told I)) (d : Drive W R F) (chunks : List (Chunk R)) : Type 0 where
    pub rows : KeepsRows items d.chunks.items chunks
    pub front : AllTell tale → Sound split comes items tale d → IsGivenFront d.ordered (limit_in split comes items d) (answer tale) (given items chunks)

  pub gave_more : (tale : List (Told I)) (d : Drive W R F) (a : Active W R) (chunks : List (Chunk R)) (left : Option ℕ) → KeepsRows items d.chunks.items chunks
      → IsMore split comes items d.ordered d.active a d.chunks.items chunks d.left left → GaveFront tale d chunks
  gave_more tale d a chunks left rows m = record { rows = rows; front = front_more tale d a chunks left m }

  held : (d : Drive W R F) (a : Active W R) (chunks : List (Chunk R)) (left : Option ℕ) (file : ℕ) (h : Halt) → d.ordered ≡ true → (tale : List (Told I))
      → IsHeld split comes items file h d.active a d.chunks.items chunks d.left left → GaveFront tale d chunks
  held d a chunks left file h o tale x = gave_more tale d a chunks left x.rows (subst (λ b. IsMore split comes items b d.active a d.chunks.items chunks d.left left) (sym o) x.more)

  -- the same at a fault that comes at its turn
  pub gave_held : (d : Drive W R F) (a : Active W R) (chunks : List (Chunk R)) (left : Option ℕ) (e : DriveFault) → (d.ordered ≡ true → IsDeliverFault split comes items d.active a d.chunks.items chunks d.left left e)
      → gives_first {F = F} d.ordered (why.Split e) ≡ true → (tale : List (Told I)) → GaveFront tale d chunks
  gave_held d a chunks left fault.NoMemory h g tale = absurd cc
  gave_held d a chunks left (fault.Source file id) h g tale = held d a chunks left file (halt.Source id) g tale (h g)
  gave_held d a chunks left (fault.Corrupt file id) h g tale = held d a chunks left file (halt.Corrupt id) g tale (h g)
  gave_held d a chunks left (fault.Overflow file) h g tale = held d a chunks left file halt.Overflow g tale (h g)
