-- A drive of which two files are exchanged that have no active split.
use Rattle.std.proofs.Common.{◌≡◌, ◌⊎◌, ℕ, ◌<◌, ◌≤◌, List, [], length, get_or, true, false, swap, inl, inr, refl, sym, ap, ◌∙◌, subst, arith, IsSome}
use Rattle.std.proofs.lemmas.List.{length-map}
use Rattle.std.proofs.lemmas.List.Edits.{length-swap}
use Rattle.scan_segments.specs.Source.{SourceState, Store}
use Rattle.scan_splits.specs.Arrivals.{Arrivals}
use Rattle.scan_drive.specs.Before.{InOrder}
use Rattle.scan_drive.specs.Desks.{Waiters, waits}
use Rattle.scan_drive.specs.Drives.{desk_at, EachLinked, FilesWithin}
use Rattle.scan_drive.specs.Drivings.{IsAskedUnder, CameOf, NoneAsked, WasAdmitted, HasSplits, SourceFailed}
use Rattle.scan_drive.specs.Ends.{limit_in}
use Rattle.scan_drive.specs.Files.{Told, told_at, untold, AllGive}
use Rattle.scan_drive.specs.Filling.{AreCounted}
use Rattle.scan_drive.specs.Forward.{Spare, Rephased}
use Rattle.scan_drive.specs.Grounds.{At, IsReason, IsRowCount, IsSlotGrounded, Grounded}
use Rattle.scan_drive.specs.Line.{exchange}
use Rattle.scan_drive.specs.Links.{Linked}
use Rattle.scan_drive.specs.Measures.{is_there}
use Rattle.scan_drive.specs.Moves.{tell, tells}
use Rattle.scan_drive.specs.Openers.{OpenerState, IsRefused}
use Rattle.scan_drive.specs.Phases.{phase_at, IsSpent, IsQueued, has_left, SpentBelow, RowsOk}
use Rattle.scan_drive.specs.Rounds.{Stands}
use Rattle.scan_drive.specs.Slots.{slot_at, stage_waits, is_halted}
use Rattle.scan_drive.specs.Splits.{SplitState, Event}
use Rattle.scan_drive.specs.Traffic.{WasAsked}
use Rattle.scan_drive.specs.Turns.{IsTally, rows_of}
use Rattle.scan_drive.specs.Wants.{Cache}
use Rattle.scan_drive.specs.declared.files.ScanFile.{ScanFile}
use Rattle.scan_drive.specs.declared.phase.Phase.{Phase}
use Rattle.scan_drive.specs.declared.phase.Phase.TheVariants as phase
use Rattle.scan_drive.specs.declared.phase.Tally.{Tally}
use Rattle.scan_drive.specs.declared.round.Drive.{Drive}
use Rattle.scan_drive.specs.declared.slot.Halt.{Halt}
use Rattle.scan_drive.specs.declared.slot.Halt.TheVariants as halt
use Rattle.scan_drive.specs.declared.slot.Slot.{Slot}
use Rattle.scan_drive.specs.declared.slot.Stage.{Stage}
use Rattle.scan_drive.specs.declared.slot.Stage.TheVariants as stage
use Rattle.scan_drive.proofs.Handing.{le_or_lt}
use Rattle.scan_drive.proofs.Exchanging.{exchange_below, exchange_before, exchange_from, exchange_first, exchange_second, exchange_other, Which, which, swap_at, swap_twice, all_swapped, at_swapped, both_swapped, at_exchanged, both_exchanged, take_swapped}
use Rattle.scan_drive.proofs.ExchangedBooks.{books_ledger}
use Rattle.scan_drive.proofs.ExchangedFiles.{swap_moves, swap_tells}

-- ---- what has splits
module _ {W R : Type 0} where
  there_waits : (s : Stage W R) (id : ℕ) → stage_waits s id ≡ true → is_there s ≡ true
  there_waits stage.Empty id h = absurd cc
  there_waits (stage.Reads r) id h = refl
  there_waits (stage.Read rows) id h = refl
  there_waits (stage.Halted r x) id h = refl

  there_takes : (s : Stage W R) (id : ℕ) → (is_halted s ≡ false → stage_waits s id ≡ true) → is_there s ≡ true
  there_takes stage.Empty id h = there_waits stage.Empty id (h refl)
  there_takes (stage.Reads r) id h = refl
  there_takes (stage.Read rows) id h = refl
  there_takes (stage.Halted r x) id h = refl

  -- the desks of files without active splits may be exchanged
  pub desks_swapped : (ks : List Waiters) (i j n : ℕ) (slots : List (Slot W R)) → i < length ks → j < length ks → n ≤ i → n ≤ j → FilesWithin n slots → EachLinked ks slots → EachLinked (swap ks i j) slots
  desks_swapped ks i j n slots p q a b low h k lt = go (which i j k)
    where
      l : length (swap ks i j) ≡ length ks
      l = length-swap ks i j

      -- nobody waits at the desk of such a file
      none : (m id place : ℕ) → m < length ks → n ≤ m → waits (desk_at ks m) id place ≡ true → ⊥
      none m id place mt le x =
          let there = there_takes (slot_at slots place).stage id ((h m mt).takes id place x) in
          let below = low place there in
          let is : (slot_at slots place).file ≡ m = (h m mt).file_is id place x in
          absurd (omega arith)

      linked : (m o : ℕ) → m < length ks → n ≤ m → n ≤ o → Linked o (desk_at ks m) slots
      linked m o mt le oe = record {
        file_is = λ id place x. absurd (none m id place mt le x);
        takes = λ id place x. absurd (none m id place mt le x);
        live = λ id place is x. (let below = low place (there_waits (slot_at slots place).stage id x) in absurd (omega arith));
      }

      go : Which i j k → Linked k (desk_at (swap ks i j) k) slots
      go (Which.first e) =
          let is : exchange i j k ≡ j = ap (exchange i j) e ∙ exchange_first i j in
          subst (λ d. Linked k d slots) (sym (swap_at ks i j k [] p q)) (subst (λ m. Linked k (desk_at ks m) slots) (sym is) (linked j k q b (omega arith)))
      go (Which.second e) =
          let is : exchange i j k ≡ i = ap (exchange i j) e ∙ exchange_second i j in
          subst (λ d. Linked k d slots) (sym (swap_at ks i j k [] p q)) (subst (λ m. Linked k (desk_at ks m) slots) (sym is) (linked i k p a (omega arith)))
      go (Which.other x y) = subst (λ d. Linked k d slots) (sym (swap_at ks i j k [] p q)) (subst (λ m. Linked k (desk_at ks m) slots) (sym (exchange_other i j k x y)) (h k (omega (arith, l))))

-- ---- rows that are counted
-- no file that is counted is exchanged
pub tally_swapped : {I : Type 0} (tale : List (Told I)) (t : Tally) (i j : ℕ) → t.files ≤ i → t.files ≤ j → i < length tale → j < length tale → IsTally tale t → IsTally (swap tale i j) t
tally_swapped {I} tale t i j le le' pt qt h = record {
  within = (let z = h.within in omega (arith, l));
  sum = λ all.
      (let was : AllGive tale = subst AllGive (swap_twice tale i j pt qt) (all_swapped (λ (z : Told I). IsSome z.part) (swap tale i j) i j (omega (arith, l)) (omega (arith, l)) all) in
      h.sum was ∙ sym (ap rows_of (take_swapped t.files tale i j le le' pt qt)));
}
  where
    l : length (swap tale i j) ≡ length tale
    l = length-swap tale i j

-- ---- two spare files
module _ {W F : Type 0} (i j : ℕ) (ps : List (Phase W F)) (s : Spare i j ps) where
  pub spare_within : i < length ps
  spare_within = let a = s.apart in let b = s.within in omega arith

  pub spare_first : (n : ℕ) → SpentBelow ps n → n ≤ i
  spare_first n h = go (le_or_lt n i)
    where
      go : (n ≤ i) ⊎ (i < n) → n ≤ i
      go (inl le) = le
      go (inr lt) = absurd (subst IsSpent s.shut (h i lt))

  pub spare_counted : (first : ℕ) (t : Tally) → AreCounted first t ps → t.files ≤ i
  spare_counted first t h = go (le_or_lt t.files i)
    where
      go : (t.files ≤ i) ⊎ (i < t.files) → t.files ≤ i
      go (inl le) = le
      go (inr lt) = absurd (subst IsQueued s.shut (h.queued i lt))

module _ {W R F : Type 0} (i j : ℕ) (v w : Drive W R F) (r : Rephased (swap v.phases.items i j) v w) where
  -- the drive is as before, but for the phases
  pub rephase : w ≡ record v { phases = w.phases }
  rephase = λ k. record { phases = w.phases; active = r.active k; chunks = r.chunks k; first = r.first k; tally = r.tally k; left = r.left k; report = r.report k; ordered = r.ordered k; budget = r.budget k; unclaimed = r.unclaimed k }

  -- what holds of it with the others' phases
  pub of_rephased : (P : Drive W R F → Type 0) → P (record v { phases = w.phases }) → P w
  of_rephased P h = subst P (sym rephase) h

  pub swap_order : InOrder v → InOrder w
  swap_order h = of_rephased InOrder h

  pub swap_limit : {I : Type 0} (split : W → SplitState I) (comes : W → Arrivals → Store → Event → Type 0) (items : R → List I) → limit_in split comes items w ≡ limit_in split comes items v
  swap_limit split comes items = of_rephased (λ x. limit_in split comes items x ≡ limit_in split comes items v) refl

  module _ (s : Spare i j v.phases.items) where
    p : i < length v.phases.items
    p = spare_within i j v.phases.items s

    q : j < length v.phases.items
    q = s.within

    pub swap_stands : (n : ℕ) → Stands n v → Stands n w
    swap_stands n h = of_rephased (Stands n) (record {
      lens = ap length r.phases_are ∙ length-swap v.phases.items i j ∙ h.lens;
      first = h.first;
      below = λ k lt.
          (let le = spare_first i j v.phases.items s v.first h.below in
          let ap1 = s.apart in
          subst (λ (ps : List (Phase W F)). IsSpent (phase_at ps k)) (sym r.phases_are)
          (at_swapped IsSpent v.phases.items i j k phase.Unopened p q (subst (λ m. IsSpent (phase_at v.phases.items m)) (sym (exchange_before v.first i j k le (omega arith) lt)) (h.below k lt))));
      ready = h.ready;
      room = h.room;
      budget = h.budget;
    })

    pub swap_linked : (ks : List Waiters) → length ks ≡ length v.phases.items → FilesWithin i v.active.slots.items → EachLinked ks v.active.slots.items → EachLinked (swap ks i j) w.active.slots.items
    swap_linked ks l low h =
        let apart = s.apart in
        of_rephased (λ x. EachLinked (swap ks i j) x.active.slots.items) (desks_swapped ks i j i v.active.slots.items (omega (arith, p)) (omega (arith, q)) (omega arith) (omega arith) low h)

    -- why files are not read
    pub swap_why : {O S I : Type 0} (state : O → OpenerState I) (polls : O → O → Type 0) (refuses : O → O → F → Type 0) (a b : List (ScanFile O S)) → length a ≡ length v.phases.items → length b ≡ length a
        → ((k : ℕ) (why : F) → phase_at v.phases.items k ≡ phase.Held why → (f : ScanFile O S) → IsRefused state polls refuses (get_or a k f).opener (get_or b k f).opener why)
        → (k : ℕ) (why : F) → phase_at w.phases.items k ≡ phase.Held why → (f : ScanFile O S) → IsRefused state polls refuses (get_or (swap a i j) k f).opener (get_or (swap b i j) k f).opener why
    swap_why {O} {S} state polls refuses a b l m h k why e f =
        both_swapped (λ (x y : ScanFile O S). IsRefused state polls refuses x.opener y.opener why) a b i j k f f (omega (arith, p, l)) (omega (arith, q, l)) (omega (arith, p, l, m)) (omega (arith, q, l, m))
        (h (exchange i j k) why (sym (swap_at v.phases.items i j k phase.Unopened p q) ∙ ap (λ ps. phase_at ps k) (sym r.phases_are) ∙ e) f)

    -- ---- what is grounded
    module _ {O S : Type 0} (source : S → SourceState) (a b : List (ScanFile O S)) (l : length a ≡ length v.phases.items) (m : length b ≡ length a) where
      pa : i < length a
      pa = omega (arith, p, l)

      qa : j < length a
      qa = omega (arith, q, l)

      pb : i < length b
      pb = omega (arith, p, l, m)

      qb : j < length b
      qb = omega (arith, q, l, m)

      asked_swapped : (name : List ℕ) (id : ℕ) → IsAskedUnder source name id a b → IsAskedUnder source name id (swap a i j) (swap b i j)
      asked_swapped name id h = record {
        place = exchange i j h.place;
        there = (let z = exchange_below (length a) i j h.place pa qa h.there in let n = length-swap a i j in omega arith);
        named = λ f. at_exchanged (λ (x : ScanFile O S). x.source_id ≡ name) a i j h.place f pa qa (h.named f);
        asked = λ f. both_exchanged (λ (x y : ScanFile O S). WasAsked id (source x.source) (source y.source)) a b i j h.place f f pa qa pb qb (h.asked f);
      }

      pub came_swapped : (c : Cache) (name : List ℕ) (id : ℕ) → CameOf source c a b name id → CameOf source c (swap a i j) (swap b i j) name id
      came_swapped c name id (inl h) = inl (asked_swapped name id h)
      came_swapped c name id (inr h) = inr h

      -- what holds of the file at a place before both
      at_before : (P Q : ScanFile O S → ScanFile O S → Type 0) → ((f g : ScanFile O S) → P f g → Q f g) → (n k : ℕ) → n ≤ i → n ≤ j → k < n → At a b P k → At (swap a i j) (swap b i j) Q k
      at_before P Q to n k x y lt h f =
          both_swapped Q a b i j k f f pa qa pb qb (subst (λ o. Q (get_or a o f) (get_or b o f)) (sym (exchange_before n i j k x y lt)) (to (get_or a k f) (get_or b k f) (h f)))

      reason_swapped : (c : Cache) (n k : ℕ) → n ≤ i → n ≤ j → k < n → (h : Halt) → IsReason source a b c k h → IsReason source (swap a i j) (swap b i j) c k h
      reason_swapped c n k x y lt (halt.Source id) g =
          at_before (λ f g. SourceFailed (source f.source) (source g.source) × WasAsked id (source f.source) (source g.source)) (λ f g. SourceFailed (source f.source) (source g.source) × WasAsked id (source f.source) (source g.source)) (λ f g z. z) n k x y lt g
      reason_swapped c n k x y lt (halt.Corrupt id) g =
          at_before (λ f g. CameOf source c a b f.source_id id) (λ f g. CameOf source c (swap a i j) (swap b i j) f.source_id id) (λ f g z. came_swapped c f.source_id id z) n k x y lt g
      reason_swapped c n k x y lt halt.Overflow g = tt
      reason_swapped c n k x y lt halt.NoMemory g = tt

      module _ {I : Type 0} (state : O → OpenerState I) (polls : O → O → Type 0) (admits : O → O → List W → Type 0) (c d : Cache) (h : Grounded state polls admits source a b c d v) where
        le : v.tally.files ≤ i
        le = spare_counted i j v.phases.items s v.first v.tally h.counted

        le' : v.tally.files ≤ j
        le' = let z = s.apart in omega (arith, le)

        -- active splits are of files before both
        pub grounded_low : FilesWithin i v.active.slots.items
        grounded_low place there = let z = (h.slots place there).counted in omega (arith, le)

        abbrev tale : List (Told I)
        tale = tells state source a

        lt : length tale ≡ length a
        lt = length-map a (tell state source)

        slot_swapped : (x : Slot W R) → IsSlotGrounded state polls admits source a b c v.tally x → IsSlotGrounded state polls admits source (swap a i j) (swap b i j) c v.tally x
        slot_swapped x g = record {
          counted = g.counted;
          some = at_before (HasSplits state polls admits) (HasSplits state polls admits) (λ f g z. z) v.tally.files x.file le le' g.counted g.some;
          came = λ id e. at_before (λ f g. CameOf source c a b f.source_id id) (λ f g. CameOf source c (swap a i j) (swap b i j) f.source_id id) (λ f g z. came_swapped c f.source_id id z) v.tally.files x.file le le' g.counted (g.came id e);
          lost = λ y e. reason_swapped c v.tally.files x.file le le' g.counted y (g.lost y e);
        }

        -- the phase at a place
        phase_swapped : (P : Phase W F → Type 0) (k : ℕ) → P (phase_at w.phases.items k) → P (phase_at v.phases.items (exchange i j k))
        phase_swapped P k z = subst P (ap (λ ps. phase_at ps k) r.phases_are ∙ swap_at v.phases.items i j k phase.Unopened p q) z

        pub swap_grounded : Grounded state polls admits source (swap a i j) (swap b i j) c d w
        swap_grounded = of_rephased (λ x. Grounded state polls admits source (swap a i j) (swap b i j) c d x) (record {
          moves = swap_moves i j state polls source ⊥ a b pa qa h.moves;
          ledger = books_ledger source a b i j m pa qa c d h.ledger;
          admitted = λ k z f. both_swapped (WasAdmitted state polls admits) a b i j k f f pa qa pb qb (h.admitted (exchange i j k) (phase_swapped IsQueued k z) f);
          some = λ k z f. both_swapped (HasSplits state polls admits) a b i j k f f pa qa pb qb (h.some (exchange i j k) (phase_swapped (λ x. has_left x ≡ true) k z) f);
          counted = record {
            from = h.counted.from;
            queued = λ k kt.
                subst (λ (ps : List (Phase W F)). IsQueued (phase_at ps k)) (sym r.phases_are)
                (at_swapped IsQueued v.phases.items i j k phase.Unopened p q (subst (λ n. IsQueued (phase_at v.phases.items n)) (sym (exchange_before v.tally.files i j k le le' kt)) (h.counted.queued k kt)));
          };
          quiet = λ k ke f. both_swapped (NoneAsked source) a b i j k f f pa qa pb qb (h.quiet (exchange i j k) (exchange_from v.tally.files i j k le le' ke) f);
          rows = subst (λ ts. IsRowCount ts (record v { phases = w.phases })) (sym (swap_tells i j state source a pa qa)) (record {
            rows = λ k.
                subst (λ (ps : List (Phase W F)). RowsOk (told_at (swap tale i j) k) (phase_at ps k)) (sym r.phases_are)
                (both_swapped (λ (t : Told I) (x : Phase W F). RowsOk t x) tale v.phases.items i j k untold phase.Unopened (omega (arith, pa, lt)) (omega (arith, qa, lt)) p q (h.rows.rows (exchange i j k)));
            tally = tally_swapped tale v.tally i j le le' (omega (arith, pa, lt)) (omega (arith, qa, lt)) h.rows.tally;
          });
          given = h.given;
          slots = λ place there. slot_swapped (slot_at v.active.slots.items place) (h.slots place there);
        })
