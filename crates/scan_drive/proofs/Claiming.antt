-- Workers claim the rows of the splits that they poll, and keep as many of them as are granted.
use Rattle.std.proofs.Common.{◌≡◌, ◌<◌, ◌≤◌, ◌+◌, ◌-◌, ◌∙◌, ℕ, suc, false, List, [], ◌∷◌, length, get_or, drop, inl, inr, refl, sym, ap, subst, arith}
use Rattle.std.specs.Prelude.{◌*◌, All, Option, None, Some, unwrap_or, slice_index_or}
use Rattle.std.proofs.lemmas.List.{drop_more, length-take-le}
use Rattle.scan_limit.specs.Budget.{most}
use Rattle.scan_limit.specs.Seats.{Budget, SeatState, seat_with, after_join, after_split}
use Rattle.scan_segments.specs.Source.{Store}
use Rattle.scan_splits.specs.Arrivals.{Arrivals}
use Rattle.scan_drive.specs.Budgets.{BudgetData}
use Rattle.scan_drive.specs.Claimed.{EachGranted, IsSeated, JobClaims, JobGranted, JobWorked, MayClaim, PhaseGrants, all_joined, joined, seated, unseated}
use Rattle.scan_drive.specs.Files.{Part}
use Rattle.scan_drive.specs.Looks.{Looks}
use Rattle.scan_drive.specs.Slots.{SlotKeeps, is_read, stage_read}
use Rattle.scan_drive.specs.Splits.{SplitState, Event}
use Rattle.scan_drive.specs.Workers.{JobPolled}
use Rattle.scan_drive.specs.declared.slot.Slot.{Slot}
use Rattle.scan_drive.specs.declared.slot.Stage.{Stage}
use Rattle.scan_drive.specs.declared.slot.Stage.TheVariants as stage
use Rattle.scan_drive.specs.declared.workers.Job.{Job}
use Rattle.scan_drive.proofs.Seating.{slot_is}

-- ---- seats
module _ {W R : Type 0} where
  -- a split that was given a seat has one
  pub given_seat : (b : Budget) (room : ℕ) (j k : Job W R) → k ≡ seated b room j → IsSeated (Some b) k
  given_seat b room j k e = (seat_with b room, ap (λ (x : Job W R). x.seat) e, refl)

  -- it is of the limit, unless memory was short
  pub own_seat : (b : Budget) (x y : Job W R) → x ≡ y → (y.short ≡ false → IsSeated (Some b) y) → x.short ≡ false → IsSeated (Some b) x
  own_seat b x y e h = subst (λ (j : Job W R). j.short ≡ false → IsSeated (Some b) j) (sym e) h

  pub given_seats : (b : Budget) (room : ℕ) (js ks : List (Job W R)) → length ks ≡ length js
      → ((i : ℕ) (d : Job W R) → i < length js → get_or ks i d ≡ seated b room (get_or js i d)) → All (IsSeated (Some b)) ks
  given_seats b room js ks n h i d lt = given_seat b room (get_or js i d) (get_or ks i d) (h i d (omega (arith, n, lt)))

-- one more part of the room is split off
pub one_split : (room i : ℕ) (s t u : SeatState) → t ≡ after_split (room * i) s → u ≡ after_split room t → u ≡ after_split (room * (i + 1)) s
one_split room i s t u e f = f ∙ ap (after_split room) e ∙ (λ k. record { budget = s.budget; room = less k; claimed = s.claimed; granted = s.granted })
  where
    less : s.room - room * i - room ≡ s.room - room * (i + 1)
    less = let m : room * (i + 1) ≡ room * i + room = omega arith in omega (arith, m)

-- there is room for one more part
pub room_more : (room i n : ℕ) (s t : SeatState) → i < n → room * n ≤ s.room → t ≡ after_split (room * i) s → room ≤ t.room
room_more room i n s t lt fits e =
    let r : t.room ≡ s.room - room * i = ap (λ (u : SeatState). u.room) e in
    let more : room * (i + 1) ≤ room * n = times_more room (i + 1) n (omega (arith, lt)) in
    let m : room * (i + 1) ≡ room * i + room = omega arith in
    omega (arith, r, more, m, fits)
  where
    times_more : (a b c : ℕ) → b ≤ c → a * b ≤ a * c
    times_more a b c l = let d : c ≡ b + (c - b) = omega (arith, l) in let e : a * (b + (c - b)) ≡ a * b + a * (c - b) = omega arith in subst (λ k. a * b ≤ a * k) (sym d) (omega (arith, e))

module _ {W R : Type 0} where
  -- a split for which memory was not short, without its seat
  abbrev pub IsJoined : Job W R → Job W R → Type 0
  IsJoined old new = (old.short ≡ false) × (new ≡ unseated old)

  -- the seats of those that are left, once one was joined
  pub next_joined : (jobs : List (Job W R)) (i : ℕ) (x : Job W R) (first s t : SeatState) → i < length jobs → x ≡ get_or jobs i x → t ≡ joined x.seat s
      → all_joined (drop i jobs) s ≡ first → all_joined (drop (i + 1) jobs) t ≡ first
  next_joined jobs i x first s t lt at e h =
      ap (all_joined (drop (i + 1) jobs)) (e ∙ ap (λ (y : Job W R). joined y.seat s) at)
      ∙ sym (ap (λ (xs : List (Job W R)). all_joined xs s) (drop_more jobs i x lt)) ∙ h

-- ---- one split
module _ {W I R : Type 0} (items : R → List I) where
  none_read : (s : Stage W R) → is_read s ≡ false → stage_read items s ≡ 0
  none_read stage.Empty e = refl
  none_read (stage.Reads r) e = refl
  none_read (stage.Read rows) e = absurd cc
  none_read (stage.Halted r h) e = refl

  seat_stays : (s t : SeatState) (x y : Slot W R) → MayClaim items s t x y → t.budget ≡ s.budget
  seat_stays s t x y (inl m) = ap (λ (u : SeatState). u.budget) m.2
  seat_stays s t x y (inr m) = ap (λ (u : SeatState). u.budget) m.claims.seat_is

module _ {W I R : Type 0} (split : W → SplitState I) (comes : W → Arrivals → Store → Event → Type 0) (items : R → List I) where
  -- a split that was worked on still has a seat
  pub still_seated : (b : Budget) (j k : Job W R) → JobWorked split comes items (Some b) j k → k.short ≡ false → IsSeated (Some b) k
  still_seated b j k w e = let c = w.claims e in (c.1, c.4, seat_stays items c.0 c.1 w.mid k.slot c.5 ∙ c.2)

  -- a split was polled, and then its rows were claimed
  pub worked_some : (limit : Option Budget) (b : Budget) (old mid new : Job W R) → limit ≡ Some b → mid.place ≡ old.place → mid.seat ≡ old.seat
      → ((p : Part I) (store : Store) → SlotKeeps split comes items p store old.slot mid.slot) → Looks split comes items old.slot.stage mid.slot.stage mid.found
      → new.place ≡ mid.place → new.found ≡ mid.found → JobClaims items (Some b) mid.slot mid new → JobWorked split comes items limit old new
  worked_some limit b old mid new e place seat keeps looks place' found claims = record {
    place_is = place' ∙ place;
    mid = mid.slot;
    keeps = keeps;
    looks = subst (Looks split comes items old.slot.stage mid.slot.stage) (sym found) looks;
    claims = subst (λ (l : Option Budget). JobClaims items l mid.slot old new) (sym e) (λ short. (let c = claims short in (c.0, c.1, c.2, sym seat ∙ c.3, c.4, c.5)));
  }

  pub worked_none : (limit : Option Budget) (old new : Job W R) → limit ≡ None → new.place ≡ old.place
      → ((p : Part I) (store : Store) → SlotKeeps split comes items p store old.slot new.slot) → Looks split comes items old.slot.stage new.slot.stage new.found
      → JobWorked split comes items limit old new
  worked_none limit old new e place keeps looks = record {
    place_is = place;
    mid = new.slot;
    keeps = keeps;
    looks = looks;
    claims = subst (λ (l : Option Budget). JobClaims items l new.slot old new) (sym e) refl;
  }

  -- with no limit a split is polled and no more
  pub worked_polled : (j k : Job W R) → JobWorked split comes items None j k → JobPolled split comes items j k
  worked_polled j k w = record {
    place_is = w.place_is;
    keeps = λ p store. subst (SlotKeeps split comes items p store j.slot) (sym w.claims) (w.keeps p store);
    looks = subst (λ (s : Slot W R). Looks split comes items j.slot.stage s.stage k.found) (sym w.claims) w.looks;
  }

  -- splits that had a seat each have one still
  pub all_seated : (b : Budget) (js ks : List (Job W R)) → length ks ≡ length js → ((i : ℕ) (d : Job W R) → i < length js → JobWorked split comes items (Some b) (get_or js i d) (get_or ks i d))
      → All (λ (k : Job W R). k.short ≡ false → IsSeated (Some b) k) ks
  all_seated b js ks n h i d lt = still_seated b (get_or js i d) (get_or ks i d) (h i d (omega (arith, n, lt)))

  -- a split that had a seat of so much room
  record OneGranted (room : ℕ) (j k : Job W R) : Type 0 where
    claimed : ℕ
    granted : ℕ
    seat : SeatState
    seat_is : k.seat ≡ Some seat
    job : JobGranted split comes items claimed granted j (unseated k)
    rest : seat.room + claimed ≡ room
    claims : seat.claimed ≡ claimed
    grants : seat.granted ≡ granted

  granted_by : (b : Budget) (room : ℕ) (j k : Job W R) (s t : SeatState) → JobWorked split comes items (Some b) (seated b room j) k → (w : Slot W R)
      → ((p : Part I) (store : Store) → SlotKeeps split comes items p store j.slot w) → Looks split comes items j.slot.stage w.stage k.found
      → s ≡ seat_with b room → k.seat ≡ Some t → MayClaim items s t w k.slot → OneGranted room j k
  granted_by b room j k s t h w keeps looks was is (inl m) = record {
    claimed = 0;
    granted = 0;
    seat = t;
    seat_is = is;
    job = record {
      place_is = h.place_is;
      mid = w;
      keeps = keeps;
      looks = looks;
      trimmed = inl m.1;
      kept = none_read items k.slot.stage (ap (λ (x : Slot W R). is_read x.stage) m.1 ∙ m.0);
      within = omega arith;
      whole = λ e. m.1;
    };
    rest = (let e : t.room ≡ room = ap (λ (u : SeatState). u.room) (m.2 ∙ was) in omega (arith, e));
    claims = ap (λ (u : SeatState). u.claimed) (m.2 ∙ was);
    grants = ap (λ (u : SeatState). u.granted) (m.2 ∙ was);
  }
  granted_by b room j k s t h w keeps looks was is (inr m) = record {
    claimed = length (items m.rows);
    granted = m.claims.granted;
    seat = t;
    seat_is = is;
    job = record {
      place_is = h.place_is;
      mid = w;
      keeps = keeps;
      looks = looks;
      trimmed = inr (record { rows = m.rows; first = m.kept; most = m.claims.granted; was = m.was; now = m.now; taken = m.claims.taken });
      kept = ap (λ (x : Slot W R). stage_read items x.stage) m.now ∙ ap length m.claims.taken ∙ length-take-le m.claims.granted (items m.rows) m.claims.within;
      within = m.claims.within;
      whole = λ e. m.now ∙ (λ i. record { file = w.file; stage = stage.Read (m.claims.whole e i) }) ∙ sym (slot_is w (stage.Read m.rows) m.was);
    };
    rest = (let e : t.room ≡ s.room - length (items m.rows) = ap (λ (u : SeatState). u.room) m.claims.seat_is in let f : s.room ≡ room = ap (λ (u : SeatState). u.room) was in let l : length (items m.rows) ≤ s.room = m.claims.fits in omega (arith, e, f, l));
    claims = (let e : t.claimed ≡ 0 + length (items m.rows) = ap (λ (u : SeatState). u.claimed) m.claims.seat_is ∙ ap (λ (u : SeatState). u.claimed + length (items m.rows)) was in omega (arith, e));
    grants = (let e : t.granted ≡ 0 + m.claims.granted = ap (λ (u : SeatState). u.granted) m.claims.seat_is ∙ ap (λ (u : SeatState). u.granted + m.claims.granted) was in omega (arith, e));
  }

  one_granted : (b : Budget) (room : ℕ) (j k : Job W R) → JobWorked split comes items (Some b) (seated b room j) k → k.short ≡ false → OneGranted room j k
  one_granted b room j k h e =
      let c = h.claims e in
      granted_by b room j k c.0 c.1 h h.mid h.keeps h.looks (sym (ap (λ (o : Option SeatState). unwrap_or o (seat_with b room)) c.3)) c.4 c.5

  -- ---- all splits
  -- what is claimed and granted in all, and what is left of the room for so many
  record Joins (claimed granted more : ℕ) (s t : SeatState) : Type 0 where
    budget_is : t.budget ≡ s.budget
    room : t.room + claimed ≡ s.room + more
    claims : t.claimed ≡ s.claimed + claimed
    grants : t.granted ≡ s.granted + granted

  -- a split was given a seat and worked on, and its seat was joined
  pub record Ends (b : Budget) (room : ℕ) (j k l : Job W R) : Type 0 where
    pub worked : JobWorked split comes items (Some b) (seated b room j) k
    pub enough : k.short ≡ false
    pub is : l ≡ unseated k

  record Sums (b : Budget) (room : ℕ) (js ks ls : List (Job W R)) : Type 0 where
    claimed : ℕ
    granted : ℕ
    each : EachGranted split comes items js ls claimed granted
    joins : (s : SeatState) → Joins claimed granted (room * length js) s (all_joined ks s)

  first_sums : (b : Budget) (room : ℕ) (j k l : Job W R) (js ks ls : List (Job W R)) → l ≡ unseated k → OneGranted room j k → Sums b room js ks ls
      → Sums b room (j ∷ js) (k ∷ ks) (l ∷ ls)
  first_sums b room j k l js ks ls e g h = record {
    claimed = g.claimed + h.claimed;
    granted = g.granted + h.granted;
    each = record {
      first_claimed = g.claimed;
      first_granted = g.granted;
      rest_claimed = h.claimed;
      rest_granted = h.granted;
      first = subst (JobGranted split comes items g.claimed g.granted j) (sym e) g.job;
      rest = h.each;
      claims = refl;
      grants = refl;
    };
    joins = λ s. (
        let t : SeatState = after_join s g.seat in
        let more = h.joins t in
        let n : room * (suc (length js)) ≡ room * length js + room = omega arith in
        let r : g.seat.room + g.claimed ≡ room = g.rest in
        let c : g.seat.claimed ≡ g.claimed = g.claims in
        let d : g.seat.granted ≡ g.granted = g.grants in
        subst (Joins (g.claimed + h.claimed) (g.granted + h.granted) (room * suc (length js)) s) (sym (ap (λ (o : Option SeatState). all_joined ks (joined o s)) g.seat_is)) (record {
          budget_is = more.budget_is;
          room = (let m : (all_joined ks t).room + h.claimed ≡ s.room + g.seat.room + room * length js = more.room in omega (arith, m, n, r));
          claims = (let m : (all_joined ks t).claimed ≡ s.claimed + g.seat.claimed + h.claimed = more.claims in omega (arith, m, c));
          grants = (let m : (all_joined ks t).granted ≡ s.granted + g.seat.granted + h.granted = more.grants in omega (arith, m, d));
        }));
  }

  sums : (b : Budget) (room : ℕ) (js ks ls : List (Job W R)) → length ks ≡ length js → length ls ≡ length js
      → ((i : ℕ) (d : Job W R) → i < length js → Ends b room (get_or js i d) (get_or ks i d) (get_or ls i d)) → Sums b room js ks ls
  sums b room [] [] [] n m h = record {
    claimed = 0;
    granted = 0;
    each = (refl, refl);
    joins = λ s. record {
      budget_is = refl;
      room = (let z : room * 0 ≡ 0 = omega arith in omega (arith, z));
      claims = omega arith;
      grants = omega arith;
    };
  }
  sums b room [] [] (l ∷ ls) n m h = absurd (let e : suc (length ls) ≡ 0 = m in omega (arith, e))
  sums b room [] (k ∷ ks) ls n m h = absurd (let e : suc (length ks) ≡ 0 = n in omega (arith, e))
  sums b room (j ∷ js) [] ls n m h = absurd (let e : 0 ≡ suc (length js) = n in omega (arith, e))
  sums b room (j ∷ js) (k ∷ ks) [] n m h = absurd (let e : 0 ≡ suc (length js) = m in omega (arith, e))
  sums b room (j ∷ js) (k ∷ ks) (l ∷ ls) n m h =
      let f = h 0 j (omega arith) in
      let n' : length ks ≡ length js = (let e : suc (length ks) ≡ suc (length js) = n in omega (arith, e)) in
      let m' : length ls ≡ length js = (let e : suc (length ls) ≡ suc (length js) = m in omega (arith, e)) in
      first_sums b room j k l js ks ls f.is (one_granted b room j k f.worked f.enough) (sums b room js ks ls n' m' (λ i d lt. h (suc i) d (omega (arith, lt))))

  -- the seat of which seats were split off, and into which they were joined again
  pub record Phase (b : Budget) (room : ℕ) (js ks ls : List (Job W R)) (old new : SeatState) : Type 0 where
    pub ends : (i : ℕ) (d : Job W R) → i < length js → Ends b room (get_or js i d) (get_or ks i d) (get_or ls i d)
    pub len : length ks ≡ length js
    pub len_after : length ls ≡ length js
    pub fits : room * length js ≤ old.room
    pub is : new ≡ all_joined ks (after_split (room * length js) old)

  pub phase_whole : (b : Budget) (room : ℕ) (js ks ls : List (Job W R)) (old new : SeatState) → Phase b room js ks ls old new
      → old.room + old.claimed ≡ most → new.room + new.claimed ≡ most
  phase_whole b room js ks ls old new p w =
      let s = sums b room js ks ls p.len p.len_after p.ends in
      let j = s.joins (after_split (room * length js) old) in
      let r : new.room + s.claimed ≡ old.room - room * length js + room * length js = ap (λ (t : SeatState). t.room + s.claimed) p.is ∙ j.room in
      let c : new.claimed ≡ old.claimed + s.claimed = ap (λ (t : SeatState). t.claimed) p.is ∙ j.claims in
      let f : room * length js ≤ old.room = p.fits in
      omega (arith, r, c, f, w)

  pub phase_grants : (b : Budget) (room : ℕ) (js ks ls : List (Job W R)) (old new : SeatState) (x y : BudgetData) → Phase b room js ks ls old new
      → x ≡ record { limit = b.limit; claimed = old.claimed; granted = old.granted } → y ≡ record { limit = b.limit; claimed = new.claimed; granted = new.granted }
      → PhaseGrants split comes items x y js ls
  phase_grants b room js ks ls old new x y p e f =
      let s = sums b room js ks ls p.len p.len_after p.ends in
      let j = s.joins (after_split (room * length js) old) in
      record {
        limit = ap (λ (z : BudgetData). z.limit) f ∙ sym (ap (λ (z : BudgetData). z.limit) e);
        claimed = s.claimed;
        granted = s.granted;
        each = s.each;
        claims = ap (λ (z : BudgetData). z.claimed) f ∙ ap (λ (t : SeatState). t.claimed) p.is ∙ j.claims ∙ sym (ap (λ (z : BudgetData). z.claimed + s.claimed) e);
        grants = ap (λ (z : BudgetData). z.granted) f ∙ ap (λ (t : SeatState). t.granted) p.is ∙ j.grants ∙ sym (ap (λ (z : BudgetData). z.granted + s.granted) e);
      }

module _ {W R : Type 0} where
  -- so it is of each part of them
  pub part_seated : (limit : Option Budget) (jobs : List (Job W R)) (start : ℕ) (part : List (Job W R)) → start + length part ≤ length jobs
      → ((k : ℕ) (d : Job W R) → k < length part → slice_index_or part k d ≡ slice_index_or jobs (start + k) d) → All (IsSeated limit) jobs → All (IsSeated limit) part
  part_seated limit jobs start part within same all k d lt = subst (IsSeated limit) (sym (same k d lt)) (all (start + k) d (omega (arith, within, lt)))

-- a phase from the seats that it gives to those that it joins
module _ {W I R : Type 0} (split : W → SplitState I) (comes : W → Arrivals → Store → Event → Type 0) (items : R → List I) where
  pub phase_ends : (b : Budget) (room : ℕ) (js seats ks ls : List (Job W R)) (old split_off new : SeatState) → room * length js ≤ old.room
      → length seats ≡ length js → length ks ≡ length seats → length ls ≡ length ks → split_off ≡ after_split (room * length js) old
      → ((i : ℕ) (d : Job W R) → i < length js → get_or seats i d ≡ seated b room (get_or js i d))
      → ((i : ℕ) (d : Job W R) → i < length seats → JobWorked split comes items (Some b) (get_or seats i d) (get_or ks i d))
      → ((i : ℕ) (d : Job W R) → i < length ks → IsJoined (get_or ks i d) (get_or ls i d)) → new ≡ all_joined ks split_off
      → Phase split comes items b room js ks ls old new
  phase_ends b room js seats ks ls old split_off new fits n m o off given worked joins is = record {
    ends = λ i d lt. (
        let one = joins i d (omega (arith, n, m, lt)) in
        record {
          worked = subst (λ (j : Job W R). JobWorked split comes items (Some b) j (get_or ks i d)) (given i d lt) (worked i d (omega (arith, n, lt)));
          enough = one.0;
          is = one.1;
        });
    len = m ∙ n;
    len_after = o ∙ m ∙ n;
    fits = fits;
    is = is ∙ ap (all_joined ks) off;
  }
