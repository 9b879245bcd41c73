-- Rows are given of all splits that are read, once over all turns.
use Rattle.std.proofs.Common.{◌≡◌, ◌≢◌, ℕ, suc, zero, ◌+◌, ◌<◌, ◌≤◌, List, [], ◌∷◌, ◌++◌, length, take, drop, get_or, Bool, true, false, eqb, Option, Some, None, Result, Ok, Err, IfOk, IfErr, inl, inr, refl, sym, ap, ◌∙◌, subst, arith, append_assoc, append-nil, IsPermutation}
use Rattle.std.specs.Prelude.{◌⊎◌, IfSome, OnOk, unwrap_or}
use Rattle.std.proofs.lemmas.Bool.{cases_eq}
use Rattle.std.proofs.lemmas.Bool.Decides.{nat_tests}
use Rattle.std.proofs.lemmas.List.Sorted.{IsPermutation-refl, IsPermutation-trans, IsPermutation-append_left, IsPermutation-append_right, IsPermutation-append_comm}
use Rattle.scan_values.specs.Selections.{is_among}
use Rattle.scan_segments.specs.Source.{Store}
use Rattle.scan_splits.specs.Arrivals.{Arrivals}
use Rattle.scan_drive.specs.Actives.{GivesRows, IsHalted, Rotates, Seated, SlotOk, AllOk, groups_in, groups_left}
use Rattle.scan_drive.specs.Chunks.{limit_of, HasRoom, fault_of, given, AddsFile, KeepsFiles, KeepsRows, Counts, GivesAll, GivesFirst, IsCause, IsCut, IsMore}
use Rattle.scan_drive.specs.Files.{Group, grouped, count, limited, Told, AllTell}
use Rattle.scan_drive.specs.Grants.{AreSome}
use Rattle.scan_drive.specs.Lost.{StopsOver}
use Rattle.scan_drive.specs.Measures.{is_there, stage_steps, slots_steps}
use Rattle.scan_drive.specs.Order.{Rises}
use Rattle.scan_drive.specs.Slots.{slot_at, nothing, is_read, is_halted, slot_groups, stage_read, read_rows}
use Rattle.scan_drive.specs.Splits.{SplitState, Event}
use Rattle.scan_drive.specs.Turns.{Filled, IsGone, FrontWaits, TurnsWait, GivesOn}
use Rattle.scan_drive.specs.declared.active.Active.{Active}
use Rattle.scan_drive.specs.declared.delivery.Chunk.{Chunk}
use Rattle.scan_drive.specs.declared.delivery.DriveFault.{DriveFault}
use Rattle.scan_drive.specs.declared.delivery.DriveFault.TheVariants as fault
use Rattle.scan_drive.specs.declared.slot.Halt.{Halt}
use Rattle.scan_drive.specs.declared.slot.Slot.{Slot}
use Rattle.scan_drive.specs.declared.slot.Stage.{Stage}
use Rattle.scan_drive.specs.declared.slot.Stage.TheVariants as stage
use Rattle.scan_drive.proofs.Desking.{among_snoc}
use Rattle.scan_drive.proofs.Giving.{front_ok, front_groups, files_rows, halted_cause, cut_count, count_grouped}
use Rattle.scan_drive.proofs.Handing.{among_head}
use Rattle.scan_drive.proofs.Ordering.{rises_later, rises_same}
use Rattle.scan_drive.proofs.Polling.{stops_over}
use Rattle.scan_drive.proofs.Same.{alike, joined_alike, rows_append, rows_any, rows_cut}
use Rattle.scan_drive.proofs.Seating.{or_cases, first_within}
use Rattle.scan_drive.proofs.Trimming.{Trims, trims_same, trims_append, trims_group}
use Rattle.scan_drive.proofs.Turning.{gives_none, gives_rows, sum_one}

-- ---- what is so of what a call answers
module _ {A E : Type 0} where
  pub ok_under : (r : Result A E) (P Q : A → Type 0) → ((x : A) → P x → Q x) → IfOk r P → IfOk r Q
  ok_under (Ok x) P Q f h = f x h
  ok_under (Err e) P Q f h = tt

  pub ok_any : (r : Result A E) (Q : A → Type 0) → ((x : A) → Q x) → IfOk r Q
  ok_any (Ok x) Q f = f x
  ok_any (Err e) Q f = tt

  pub ok_on : (r : Result A E) (P : A → Type 0) (Q : Type 0) → ((x : A) → P x → Q) → IfOk r P → OnOk r Q
  ok_on (Ok x) P Q f h = f x h
  ok_on (Err e) P Q f h = tt

  pub err_under : (r : Result A E) (P Q : E → Type 0) → ((e : E) → P e → Q e) → IfErr r P → IfErr r Q
  err_under (Ok x) P Q f h = tt
  err_under (Err e) P Q f h = f e h

  pub err_any : (r : Result A E) (Q : E → Type 0) → ((e : E) → Q e) → IfErr r Q
  err_any (Ok x) Q f = tt
  err_any (Err e) Q f = f e

-- the first of the turns that are to come
record First (rest kept : List ℕ) (place : ℕ) (later : List ℕ) : Type 0 where
  next : List ℕ
  rest_is : rest ≡ place ∷ next
  later_is : later ≡ next ++ kept

first_of : (rest kept : List ℕ) (place : ℕ) (later : List ℕ) → rest ++ kept ≡ place ∷ later → 0 < length rest → First rest kept place later
first_of [] kept place later e lt = absurd (omega (arith, lt))
first_of (r ∷ rest) kept place later e lt = record { next = rest; rest_is = ap (λ k. k ∷ rest) (ap (λ (xs : List ℕ). get_or xs 0 place) e); later_is = sym (ap (drop 1) e) }

none_left : (rest : List ℕ) → length rest ≡ 0 → rest ≡ []
none_left [] e = refl
none_left (r ∷ rest) e = absurd (omega (arith, e))

none_first : (xs ys : List ℕ) → xs ++ ys ≡ [] → length xs ≡ 0
none_first [] ys e = refl
none_first (x ∷ xs) ys e = absurd cc

module _ {W R : Type 0} where
  -- a slot after two steps
  gone_then : (a b c : Slot W R) → IsGone a b → IsGone b c → IsGone a c
  gone_then a b c g (inl e) = subst (IsGone a) (sym e) g
  gone_then a b c (inl e) (inr h) = inr (sym (ap (λ (s : Slot W R). is_read s.stage) e) ∙ h.0, h.1 ∙ ap (λ (s : Slot W R). s.file) e, h.2)
  gone_then a b c (inr g) (inr h) = let bad : false ≡ true = sym (ap is_read g.2) ∙ h.0 in absurd cc

  gone_file : (a b : Slot W R) → IsGone a b → b.file ≡ a.file
  gone_file a b (inl e) = ap (λ (s : Slot W R). s.file) e
  gone_file a b (inr h) = h.1

  rows_gone : (file : ℕ) (rows : R) (mid new : Active W R) → GivesRows file rows mid new → (q : ℕ) → IsGone (slot_at mid.slots.items q) (slot_at new.slots.items q)
  rows_gone file rows mid new f q = go (cases_eq q f.place)
    where
      go : (q ≡ f.place) ⊎ (q ≢ f.place) → IsGone (slot_at mid.slots.items q) (slot_at new.slots.items q)
      go (inr n) = inl (f.becomes.others q n)
      go (inl is) =
          subst (λ k. IsGone (slot_at mid.slots.items k) (slot_at new.slots.items k)) (sym is)
          (inr (ap (λ (s : Slot W R). is_read s.stage) f.was, ap (λ (s : Slot W R). s.file) f.becomes.at ∙ sym (ap (λ (s : Slot W R). s.file) f.was), ap (λ (s : Slot W R). s.stage) f.becomes.at))

  -- ---- the first goes behind the others
  turned : (old new : Active W R) → Rotates old new → IsPermutation new.turns.items old.turns.items
  turned old new r =
      subst (IsPermutation new.turns.items) (sym r.turns)
      (subst (λ xs. IsPermutation xs (r.place ∷ r.later)) (sym r.turned) (IsPermutation-append_comm r.later (r.place ∷ [])))

  turned_among : (old new : Active W R) → Rotates old new → (q : ℕ) → is_among new.turns.items q ≡ is_among old.turns.items q
  turned_among old new r = (alike new.turns.items old.turns.items (turned old new r)).0

  turned_seated : (old new : Active W R) → Rotates old new → Seated old → Seated new
  turned_seated old new r s =
      let free : new.free.items ≡ old.free.items = λ i. (r.free i).items in
      let all = alike (new.turns.items ++ new.free.items) (old.turns.items ++ old.free.items)
      (subst (λ (fs : List ℕ). IsPermutation (new.turns.items ++ fs) (old.turns.items ++ old.free.items)) (sym free) (IsPermutation-append_left old.free.items new.turns.items old.turns.items (turned old new r))) in
      record {
        once = all.1 ∙ s.once;
        within = λ q m. subst (λ (ss : List (Slot W R)). q < length ss) (sym r.slots) (s.within q (sym (all.0 q) ∙ m));
        empty = λ q off. ap (λ (ss : List (Slot W R)). (slot_at ss q).stage) r.slots ∙ s.empty q (sym (turned_among old new r q) ∙ off);
      }

  turned_filled : (old new : Active W R) → Rotates old new → Filled old → Filled new
  turned_filled old new r f q m = ap (λ (ss : List (Slot W R)). is_there (slot_at ss q).stage) r.slots ∙ f q (sym (turned_among old new r q) ∙ m)

  -- one of them less
  rises_less : (i last : ℕ) (xs : List ℕ) (p : ℕ) (ys : List ℕ) (slots : List (Slot W R)) → Rises i last (xs ++ p ∷ ys) slots → Rises i last (xs ++ ys) slots
  rises_less i last [] p ys slots h = rises_later i last p ys slots h
  rises_less i last (x ∷ xs) p ys slots h = (h.0, rises_less (slot_at slots x).file last xs p ys slots h.1)

  nothing_there : (q : ℕ) → slot_at {W = W} {R = R} [] q ≡ nothing
  nothing_there zero = refl
  nothing_there (suc q) = refl

-- why none is given then
pub held_cause : {I : Type 0} (tale : List (Told I)) (why : Option DriveFault) (e : DriveFault) → IfSome why (IsCause tale) → (e ≡ fault.NoMemory) ⊎ (why ≡ Some e) → IsCause tale e
held_cause tale why e h (inl short) = subst (IsCause tale) (sym short) tt
held_cause tale why e h (inr is) = subst (λ o. IfSome o (IsCause tale)) is h

-- ---- how many rows are there
module _ {W I R : Type 0} (items : R → List I) where
  read_same : (xs ys : List (Slot W R)) → ((q : ℕ) → slot_at ys q ≡ slot_at xs q) → read_rows items ys ≡ read_rows items xs
  read_same [] [] h = refl
  read_same [] (y ∷ ys) h =
      let a : stage_read items y.stage ≡ 0 = ap (λ (s : Slot W R). stage_read items s.stage) (h 0) in
      let b = read_same [] ys (λ q. h (suc q) ∙ nothing_there (suc q) ∙ sym (nothing_there q)) in
      omega (arith, a, b)
  read_same (x ∷ xs) [] h =
      let a : 0 ≡ stage_read items x.stage = ap (λ (s : Slot W R). stage_read items s.stage) (h 0) in
      let b = read_same xs [] (λ q. nothing_there q ∙ sym (nothing_there (suc q)) ∙ h (suc q)) in
      omega (arith, a, b)
  read_same (x ∷ xs) (y ∷ ys) h =
      let a : stage_read items y.stage ≡ stage_read items x.stage = ap (λ (s : Slot W R). stage_read items s.stage) (h 0) in
      let b = read_same xs ys (λ q. h (suc q)) in
      omega (arith, a, b)

  -- one slot is another
  read_one : (place : ℕ) (xs ys : List (Slot W R)) → place < length xs → ((q : ℕ) → q ≢ place → slot_at ys q ≡ slot_at xs q) →
      read_rows items ys + stage_read items (slot_at xs place).stage ≡ read_rows items xs + stage_read items (slot_at ys place).stage
  read_one place [] ys lt h = absurd (omega (arith, lt))
  read_one zero (x ∷ xs) [] lt h = let b = read_same xs [] (λ q. nothing_there q ∙ sym (nothing_there (suc q)) ∙ h (suc q) (λ e. absurd (omega arith))) in omega (arith, b)
  read_one zero (x ∷ xs) (y ∷ ys) lt h = let b = read_same xs ys (λ q. h (suc q) (λ e. absurd (omega arith))) in omega (arith, b)
  read_one (suc p) (x ∷ xs) [] lt h =
      let a : 0 ≡ stage_read items x.stage = ap (λ (s : Slot W R). stage_read items s.stage) (h 0 (λ e. absurd (omega arith))) in
      let b = read_one p xs [] (omega (arith, lt)) (λ q n. nothing_there q ∙ sym (nothing_there (suc q)) ∙ h (suc q) (λ e. n (omega (arith, e)))) in
      let z : stage_read items (slot_at {W = W} {R = R} [] p).stage ≡ 0 = ap (λ (s : Slot W R). stage_read items s.stage) (nothing_there p) in
      omega (arith, a, b, z)
  read_one (suc p) (x ∷ xs) (y ∷ ys) lt h =
      let a : stage_read items y.stage ≡ stage_read items x.stage = ap (λ (s : Slot W R). stage_read items s.stage) (h 0 (λ e. absurd (omega arith))) in
      let b = read_one p xs ys (omega (arith, lt)) (λ q n. h (suc q) (λ e. n (omega (arith, e)))) in
      omega (arith, a, b)

  unread_none : (s : Stage W R) → is_read s ≡ false → stage_read items s ≡ 0
  unread_none stage.Empty h = refl
  unread_none (stage.Reads r) h = refl
  unread_none (stage.Read rows) h = absurd cc
  unread_none (stage.Halted r k) h = refl

  read_none : (slots : List (Slot W R)) → ((q : ℕ) → is_read (slot_at slots q).stage ≡ false) → read_rows items slots ≡ 0
  read_none [] h = refl
  read_none (s ∷ slots) h = let a = unread_none s.stage (h 0) in let b = read_none slots (λ q. h (suc q)) in omega (arith, a, b)

module _ {W I R : Type 0} (split : W → SplitState I) (comes : W → Arrivals → Store → Event → Type 0) (items : R → List I) where
  turned_ok : (tale : List (Told I)) (old new : Active W R) → Rotates old new → AllOk split comes items tale old → AllOk split comes items tale new
  turned_ok tale old new r ok q m = subst (λ (ss : List (Slot W R)). SlotOk split comes items tale (slot_at ss q)) (sym r.slots) (ok q (sym (turned_among old new r q) ∙ m))

  turned_groups : (tale : List (Told I)) (old new : Active W R) → Rotates old new → IsPermutation (groups_left split comes items tale new) (groups_left split comes items tale old)
  turned_groups tale old new r =
      subst (λ (ss : List (Slot W R)). IsPermutation (groups_in split comes items tale new.turns.items ss) (groups_left split comes items tale old)) (sym r.slots)
      (joined_alike (λ place. slot_groups split comes items tale (slot_at old.slots.items place)) new.turns.items old.turns.items (turned old new r))

  -- how far turns were gone over: what was given, which are to come, and which were kept behind them, with the first fault that was met
  pub record Over (old now : Active W R) (before chunks : List (Chunk R)) (left here : Option ℕ) (why : Option DriveFault) (i : ℕ) : Type 0 where
    pub rest : List ℕ
    pub kept : List ℕ
    pub turns : now.turns.items ≡ rest ++ kept
    pub most : i + length rest ≡ length old.turns.items
    pub seated : Seated now
    pub ok : (tale : List (Told I)) → AllOk split comes items tale old → AllOk split comes items tale now
    pub groups : (tale : List (Told I)) → AllTell tale → AllOk split comes items tale old
        → IsPermutation (given items chunks ++ groups_left split comes items tale now) (given items before ++ groups_left split comes items tale old)
    pub counts : Counts items before chunks left here
    pub some : KeepsRows items before chunks
    pub files : KeepsFiles old.slots.items before chunks
    pub at : (q : ℕ) → IsGone (slot_at old.slots.items q) (slot_at now.slots.items q)
    pub filled : Filled old → Filled now
    pub nears : ((now.slots.items ≡ old.slots.items) × (kept ++ rest ≡ old.turns.items)) ⊎ (slots_steps split now.slots.items < slots_steps split old.slots.items)
    pub order : (first last : ℕ) → Rises first last old.turns.items old.slots.items → Rises first last (kept ++ rest) old.slots.items
    pub unread : (q : ℕ) → is_among kept q ≡ true → is_read (slot_at now.slots.items q).stage ≡ false
    pub wanted : why ≡ None → (q : ℕ) → is_among kept q ≡ true → is_halted (slot_at now.slots.items q).stage ≡ false
    pub stops : IfSome why (StopsOver old.slots.items)
    pub cause : (tale : List (Told I)) → AllOk split comes items tale old → IfSome why (IsCause tale)
    pub reads : count (given items chunks) + read_rows items now.slots.items ≡ count (given items before) + read_rows items old.slots.items

  pub over_none : (a : Active W R) (chunks : List (Chunk R)) (left : Option ℕ) → Seated a → HasRoom left → Over a a chunks chunks left left None 0
  over_none a chunks left seated room = record {
    rest = a.turns.items;
    kept = [];
    turns = sym (append-nil a.turns.items);
    most = omega arith;
    seated = seated;
    ok = λ tale ok. ok;
    groups = λ tale all ok. IsPermutation-refl (given items chunks ++ groups_left split comes items tale a);
    counts = record { limit = refl; room = room };
    some = λ h. h;
    files = λ n w h. h;
    at = λ q. inl refl;
    filled = λ f. f;
    nears = inl (refl, refl);
    order = λ first last h. h;
    unread = λ q m. absurd cc;
    wanted = λ e q m. absurd cc;
    stops = tt;
    cause = λ tale ok. tt;
    reads = refl;
  }

  -- a turn is to come
  pub over_some : (old now : Active W R) (before chunks : List (Chunk R)) (left here : Option ℕ) (why : Option DriveFault) (i : ℕ) → Over old now before chunks left here why i → i < length old.turns.items → now.turns.items ≡ [] → ⊥
  over_some old now before chunks left here why i s lt e = let a = s.most in let b = none_first s.rest s.kept (sym s.turns ∙ e) in absurd (omega (arith, a, b, lt))

  -- the rows of a split are given
  pub over_rows : (file : ℕ) (rows : R) (old mid new : Active W R) (before chunks chunks' : List (Chunk R)) (left here left' : Option ℕ) (why : Option DriveFault) (i : ℕ) → Over old mid before chunks left here why i → i < length old.turns.items →
      GivesRows file rows mid new → GivesAll items file (items rows) chunks chunks' here left' → KeepsRows items chunks chunks' → AddsFile file chunks chunks' → Over old new before chunks' left left' why (i + 1)
  over_rows file rows old mid new before chunks chunks' left here left' why i s lt f g some adds = record {
    rest = first.next;
    kept = s.kept;
    turns = first.later_is;
    most = let a = s.most in let b : length s.rest ≡ length (f.place ∷ first.next) = ap length first.rest_is in omega (arith, a, b);
    seated = f.seated;
    ok = λ tale ok. front_ok split comes items tale file rows mid new s.seated f (s.ok tale ok);
    groups = λ tale all ok. subst (λ gs. IsPermutation gs (given items before ++ groups_left split comes items tale old)) (sym (moved tale all ok)) (s.groups tale all ok);
    counts = record { limit = g.counts.limit ∙ s.counts.limit; room = g.counts.room };
    some = λ h. some (s.some h);
    files = files_rows file rows old.slots.items mid new before chunks chunks' s.at f s.files adds;
    at = λ q. gone_then (slot_at old.slots.items q) (slot_at mid.slots.items q) (slot_at new.slots.items q) (s.at q) (gone q);
    filled = λ h. (gives_rows split file rows mid mid new s.seated f (gives_none split mid)).filled (s.filled h);
    nears = inr (less s.nears);
    order = λ first' last h. rises_less first' last s.kept f.place first.next old.slots.items (subst (λ rs. Rises first' last (s.kept ++ rs) old.slots.items) first.rest_is (s.order first' last h));
    unread = λ q m. unread_gone q (s.unread q m) (gone q);
    wanted = λ e q m. unhalted_gone q (s.wanted e q m) (gone q);
    stops = s.stops;
    cause = s.cause;
    reads = reads;
  }
    where
      first : First s.rest s.kept f.place new.turns.items
      first = first_of s.rest s.kept f.place new.turns.items (sym s.turns ∙ f.turns) (let a = s.most in omega (arith, a, lt))

      gone : (q : ℕ) → IsGone (slot_at mid.slots.items q) (slot_at new.slots.items q)
      gone = rows_gone file rows mid new f

      moved : (tale : List (Told I)) → AllTell tale → AllOk split comes items tale old → given items chunks' ++ groups_left split comes items tale new ≡ given items chunks ++ groups_left split comes items tale mid
      moved tale all ok =
          ap (λ gs. gs ++ groups_left split comes items tale new) g.groups
          ∙ append_assoc (given items chunks) (grouped file (items rows)) (groups_left split comes items tale new)
          ∙ ap (λ gs. given items chunks ++ gs) (sym (front_groups split comes items tale file rows mid new s.seated f all (s.ok tale ok)))

      unread_gone : (q : ℕ) → is_read (slot_at mid.slots.items q).stage ≡ false → IsGone (slot_at mid.slots.items q) (slot_at new.slots.items q) → is_read (slot_at new.slots.items q).stage ≡ false
      unread_gone q h (inl e) = ap (λ (x : Slot W R). is_read x.stage) e ∙ h
      unread_gone q h (inr e) = ap is_read e.2

      unhalted_gone : (q : ℕ) → is_halted (slot_at mid.slots.items q).stage ≡ false → IsGone (slot_at mid.slots.items q) (slot_at new.slots.items q) → is_halted (slot_at new.slots.items q).stage ≡ false
      unhalted_gone q h (inl e) = ap (λ (x : Slot W R). is_halted x.stage) e ∙ h
      unhalted_gone q h (inr e) = ap is_halted e.2

      one : slots_steps split new.slots.items < slots_steps split mid.slots.items
      one =
          let z = sum_one split f.place mid.slots.items new.slots.items f.becomes.others in
          let a : stage_steps split (slot_at mid.slots.items f.place).stage ≡ 1 = ap (λ (x : Slot W R). stage_steps split x.stage) f.was in
          let b : stage_steps split (slot_at new.slots.items f.place).stage ≡ 0 = ap (λ (x : Slot W R). stage_steps split x.stage) f.becomes.at in
          omega (arith, z, a, b)

      less : ((mid.slots.items ≡ old.slots.items) × (s.kept ++ s.rest ≡ old.turns.items)) ⊎ (slots_steps split mid.slots.items < slots_steps split old.slots.items) → slots_steps split new.slots.items < slots_steps split old.slots.items
      less (inl e) = subst (λ (ss : List (Slot W R)). slots_steps split new.slots.items < slots_steps split ss) e.0 one
      less (inr l) = let o = one in omega (arith, l, o)

      reads : count (given items chunks') + read_rows items new.slots.items ≡ count (given items before) + read_rows items old.slots.items
      reads =
          let z = read_one items f.place mid.slots.items new.slots.items (first_within mid.turns.items new.turns.items mid.free.items f.place mid.slots.items s.seated f.turns) f.becomes.others in
          let a : stage_read items (slot_at mid.slots.items f.place).stage ≡ length (items rows) = ap (λ (x : Slot W R). stage_read items x.stage) f.was in
          let b : stage_read items (slot_at new.slots.items f.place).stage ≡ 0 = ap (λ (x : Slot W R). stage_read items x.stage) f.becomes.at in
          let c : count (given items chunks') ≡ count (given items chunks ++ grouped file (items rows)) = ap count g.groups in
          let d = rows_append (given items chunks) (grouped file (items rows)) in
          let e = count_grouped file (items rows) in
          let r = s.reads in
          omega (arith, z, a, b, c, d, e, r)

  -- a split that has no rows goes behind the others
  over_turns : (old mid new : Active W R) (before chunks : List (Chunk R)) (left here : Option ℕ) (why after : Option DriveFault) (i : ℕ) → Over old mid before chunks left here why i → i < length old.turns.items → (r : Rotates mid new) →
      is_read (slot_at mid.slots.items r.place).stage ≡ false → (after ≡ None → (why ≡ None) × (is_halted (slot_at mid.slots.items r.place).stage ≡ false)) →
      IfSome after (StopsOver old.slots.items) → ((tale : List (Told I)) → AllOk split comes items tale old → IfSome after (IsCause tale)) → Over old new before chunks left here after (i + 1)
  over_turns old mid new before chunks left here why after i s lt r unread wanted stops cause = record {
    rest = first.next;
    kept = s.kept ++ r.place ∷ [];
    turns = r.turned ∙ ap (λ xs. xs ++ r.place ∷ []) first.later_is ∙ append_assoc first.next s.kept (r.place ∷ []);
    most = let a = s.most in let b : length s.rest ≡ length (r.place ∷ first.next) = ap length first.rest_is in omega (arith, a, b);
    seated = turned_seated mid new r s.seated;
    ok = λ tale ok. turned_ok tale mid new r (s.ok tale ok);
    groups = λ tale all ok.
        IsPermutation-trans (given items chunks ++ groups_left split comes items tale new) (given items chunks ++ groups_left split comes items tale mid) (given items before ++ groups_left split comes items tale old)
        (IsPermutation-append_right (given items chunks) (groups_left split comes items tale new) (groups_left split comes items tale mid) (turned_groups tale mid new r)) (s.groups tale all ok);
    counts = s.counts;
    some = s.some;
    files = s.files;
    at = λ q. subst (λ (ss : List (Slot W R)). IsGone (slot_at old.slots.items q) (slot_at ss q)) (sym r.slots) (s.at q);
    filled = λ h. turned_filled mid new r (s.filled h);
    nears = nears s.nears;
    order = λ first' last h. subst (λ ts. Rises first' last ts old.slots.items) (sym same) (s.order first' last h);
    unread = λ q m. ap (λ (ss : List (Slot W R)). is_read (slot_at ss q).stage) r.slots ∙ either q (λ (x : Stage W R). is_read x) (s.unread q) unread (or_cases (is_among s.kept q) (eqb r.place q) (sym (among_snoc s.kept r.place q) ∙ m));
    wanted = λ e q m. ap (λ (ss : List (Slot W R)). is_halted (slot_at ss q).stage) r.slots ∙ either q (λ (x : Stage W R). is_halted x) (s.wanted (wanted e).0 q) (wanted e).1 (or_cases (is_among s.kept q) (eqb r.place q) (sym (among_snoc s.kept r.place q) ∙ m));
    stops = stops;
    cause = cause;
    reads = ap (λ (ss : List (Slot W R)). count (given items chunks) + read_rows items ss) r.slots ∙ s.reads;
  }
    where
      first : First s.rest s.kept r.place r.later
      first = first_of s.rest s.kept r.place r.later (sym s.turns ∙ r.turns) (let a = s.most in omega (arith, a, lt))

      same : (s.kept ++ r.place ∷ []) ++ first.next ≡ s.kept ++ s.rest
      same = append_assoc s.kept (r.place ∷ []) first.next ∙ ap (λ rs. s.kept ++ rs) (sym first.rest_is)

      nears : ((mid.slots.items ≡ old.slots.items) × (s.kept ++ s.rest ≡ old.turns.items)) ⊎ (slots_steps split mid.slots.items < slots_steps split old.slots.items)
          → ((new.slots.items ≡ old.slots.items) × ((s.kept ++ r.place ∷ []) ++ first.next ≡ old.turns.items)) ⊎ (slots_steps split new.slots.items < slots_steps split old.slots.items)
      nears (inl e) = inl (r.slots ∙ e.0, same ∙ e.1)
      nears (inr l) = inr (subst (λ (ss : List (Slot W R)). slots_steps split ss < slots_steps split old.slots.items) (sym r.slots) l)

      either : (q : ℕ) (P : Stage W R → Bool) → (is_among s.kept q ≡ true → P (slot_at mid.slots.items q).stage ≡ false) → P (slot_at mid.slots.items r.place).stage ≡ false → (is_among s.kept q ≡ true) ⊎ (eqb r.place q ≡ true) → P (slot_at mid.slots.items q).stage ≡ false
      either q P h here (inl m) = h m
      either q P h here (inr e) = let is : q ≡ r.place = grind (arith, nat_tests) in ap (λ k. P (slot_at mid.slots.items k).stage) is ∙ here

  -- the place of the first turn
  first_place : (a b : ℕ) (xs ys turns : List ℕ) → turns ≡ a ∷ xs → turns ≡ b ∷ ys → b ≡ a
  first_place a b xs ys turns e f = ap (λ (ts : List ℕ). get_or ts 0 a) (sym f ∙ e)

  pub over_waits : (old mid new : Active W R) (before chunks : List (Chunk R)) (left here : Option ℕ) (why : Option DriveFault) (i : ℕ) → Over old mid before chunks left here why i → i < length old.turns.items → Rotates mid new × FrontWaits mid → Over old new before chunks left here why (i + 1)
  over_waits old mid new before chunks left here why i s lt h =
      let is = first_place h.1.place h.0.place h.1.later h.0.later mid.turns.items h.1.turns h.0.turns in
      over_turns old mid new before chunks left here why why i s lt h.0 (ap (λ k. is_read (slot_at mid.slots.items k).stage) is ∙ h.1.unread) (λ e. (e, ap (λ k. is_halted (slot_at mid.slots.items k).stage) is ∙ h.1.wanted)) s.stops s.cause

  pub over_halted : (file : ℕ) (h : Halt) (old mid new : Active W R) (before chunks : List (Chunk R)) (left here : Option ℕ) (why after : Option DriveFault) (i : ℕ) → Over old mid before chunks left here why i → i < length old.turns.items →
      IsHalted file h mid × Rotates mid new → after ≡ Some (unwrap_or why (fault_of file h)) → Over old new before chunks left here after (i + 1)
  over_halted file h old mid new before chunks left here why after i s lt x e =
      let is = first_place x.0.place x.1.place x.0.later x.1.later mid.turns.items x.0.turns x.1.turns in
      over_turns old mid new before chunks left here why after i s lt x.1 (ap (λ k. is_read (slot_at mid.slots.items k).stage) is ∙ ap (λ (z : Slot W R). is_read z.stage) x.0.was) (λ n. absurd (some_not (sym e ∙ n)))
      (subst (λ o. IfSome o (StopsOver old.slots.items)) (sym e) (stops why s.stops))
      (λ tale ok. subst (λ o. IfSome o (IsCause tale)) (sym e) (cause tale ok why (s.cause tale ok)))
    where
      some_not : Some (unwrap_or why (fault_of file h)) ≡ None → ⊥
      some_not e = absurd cc

      stops : (o : Option DriveFault) → IfSome o (StopsOver old.slots.items) → StopsOver old.slots.items (unwrap_or o (fault_of file h))
      stops (Some f) k = k
      stops None k = stops_over file h old.slots.items mid.slots.items mid refl s.at x.0

      cause : (tale : List (Told I)) → AllOk split comes items tale old → (o : Option DriveFault) → IfSome o (IsCause tale) → IsCause tale (unwrap_or o (fault_of file h))
      cause tale ok (Some f) k = k
      cause tale ok None k = halted_cause split comes items tale file h mid x.0 (s.ok tale ok)

  -- ---- all turns were gone over
  module _ (old now : Active W R) (before chunks : List (Chunk R)) (left here : Option ℕ) (why : Option DriveFault) (i : ℕ) (s : Over old now before chunks left here why i) (le : length old.turns.items ≤ i) where
    empty : s.rest ≡ []
    empty = none_left s.rest (let a = s.most in omega (arith, a, le))

    turns_kept : now.turns.items ≡ s.kept
    turns_kept = s.turns ∙ ap (λ rs. rs ++ s.kept) empty

    kept_turns : s.kept ++ s.rest ≡ now.turns.items
    kept_turns = ap (λ rs. s.kept ++ rs) empty ∙ append-nil s.kept ∙ sym turns_kept

    pub over_more : IsMore split comes items false old now before chunks left here
    over_more = record {
      groups = s.groups;
      counts = s.counts;
      order = λ first last h. rises_same first last now.turns.items old.slots.items now.slots.items (λ q m. gone_file (slot_at old.slots.items q) (slot_at now.slots.items q) (s.at q)) (subst (λ ts. Rises first last ts old.slots.items) kept_turns (s.order first last h));
    }

    pub over_gives : GivesOn split old now
    over_gives = record { at = s.at; filled = s.filled; nears = go s.nears }
      where
        go : ((now.slots.items ≡ old.slots.items) × (s.kept ++ s.rest ≡ old.turns.items)) ⊎ (slots_steps split now.slots.items < slots_steps split old.slots.items)
            → ((now.slots.items ≡ old.slots.items) × (now.turns.items ≡ old.turns.items)) ⊎ (slots_steps split now.slots.items < slots_steps split old.slots.items)
        go (inl e) = inl (e.0, sym kept_turns ∙ e.1)
        go (inr l) = inr l

    pub over_wait : why ≡ None → TurnsWait now
    over_wait e = go s.kept turns_kept (s.unread) (s.wanted e)
      where
        go : (ks : List ℕ) → now.turns.items ≡ ks → ((q : ℕ) → is_among ks q ≡ true → is_read (slot_at now.slots.items q).stage ≡ false) → ((q : ℕ) → is_among ks q ≡ true → is_halted (slot_at now.slots.items q).stage ≡ false) → TurnsWait now
        go [] t u w = inl t
        go (k ∷ ks) t u w = inr (record { place = k; later = ks; turns = t; unread = u k (among_head k ks); wanted = w k (among_head k ks) })

    pub over_reads : count (given items chunks) ≡ count (given items before) + read_rows items old.slots.items
    over_reads = let z = read_none items now.slots.items (λ q. go q (is_among now.turns.items q) refl) in let r = s.reads in omega (arith, z, r)
      where
        go : (q : ℕ) (b : Bool) → is_among now.turns.items q ≡ b → is_read (slot_at now.slots.items q).stage ≡ false
        go q true m = s.unread q (sym (ap (λ (ts : List ℕ). is_among ts q) turns_kept) ∙ m)
        go q false m = ap is_read (s.seated.empty q m)

  -- ---- the last one waits for others
  module _ (old mid new : Active W R) (before chunks : List (Chunk R)) (left here : Option ℕ) (why : Option DriveFault) (i : ℕ) (s : Over old mid before chunks left here why i) (lt : i < length old.turns.items) (le : length old.turns.items ≤ i + 1)
      (r : Rotates mid new) where
    held_first : First s.rest s.kept r.place r.later
    held_first = first_of s.rest s.kept r.place r.later (sym s.turns ∙ r.turns) (let a = s.most in omega (arith, a, lt))

    held_next : held_first.next ≡ []
    held_next = none_left held_first.next (let a = s.most in let b : length s.rest ≡ length (r.place ∷ held_first.next) = ap length held_first.rest_is in omega (arith, a, b, le))

    held_later : r.later ≡ s.kept
    held_later = held_first.later_is ∙ ap (λ xs. xs ++ s.kept) held_next

    held_turns : new.turns.items ≡ s.kept ++ s.rest
    held_turns = r.turned ∙ ap (λ xs. xs ++ r.place ∷ []) held_later ∙ ap (λ xs. s.kept ++ (r.place ∷ xs)) (sym held_next) ∙ ap (λ xs. s.kept ++ xs) (sym held_first.rest_is)

    held_at : (q : ℕ) → IsGone (slot_at old.slots.items q) (slot_at new.slots.items q)
    held_at q = subst (λ (ss : List (Slot W R)). IsGone (slot_at old.slots.items q) (slot_at ss q)) (sym r.slots) (s.at q)

    pub held_seated : Seated new
    held_seated = turned_seated mid new r s.seated

    pub held_ok : (tale : List (Told I)) → AllOk split comes items tale old → AllOk split comes items tale new
    held_ok tale ok = turned_ok tale mid new r (s.ok tale ok)

    pub held_more : IsMore split comes items false old new before chunks left here
    held_more = record {
      groups = λ tale all ok.
          IsPermutation-trans (given items chunks ++ groups_left split comes items tale new) (given items chunks ++ groups_left split comes items tale mid) (given items before ++ groups_left split comes items tale old)
          (IsPermutation-append_right (given items chunks) (groups_left split comes items tale new) (groups_left split comes items tale mid) (turned_groups tale mid new r)) (s.groups tale all ok);
      counts = s.counts;
      order = λ first last h. rises_same first last new.turns.items old.slots.items new.slots.items (λ q m. gone_file (slot_at old.slots.items q) (slot_at new.slots.items q) (held_at q)) (subst (λ ts. Rises first last ts old.slots.items) (sym held_turns) (s.order first last h));
    }

    pub held_gives : GivesOn split old new
    held_gives = record { at = held_at; filled = λ h. turned_filled mid new r (s.filled h); nears = go s.nears }
      where
        go : ((mid.slots.items ≡ old.slots.items) × (s.kept ++ s.rest ≡ old.turns.items)) ⊎ (slots_steps split mid.slots.items < slots_steps split old.slots.items)
            → ((new.slots.items ≡ old.slots.items) × (new.turns.items ≡ old.turns.items)) ⊎ (slots_steps split new.slots.items < slots_steps split old.slots.items)
        go (inl e) = inl (r.slots ∙ e.0, held_turns ∙ e.1)
        go (inr l) = inr (subst (λ (ss : List (Slot W R)). slots_steps split ss < slots_steps split old.slots.items) (sym r.slots) l)

    -- the first of the others waits
    pub held_wait : 1 < length mid.turns.items → why ≡ None → TurnsWait new
    held_wait some e = go s.kept refl s.unread (s.wanted e)
      where
        still : (P : Slot W R → Type 0) (q : ℕ) → P (slot_at mid.slots.items q) → P (slot_at new.slots.items q)
        still P q h = subst (λ (ss : List (Slot W R)). P (slot_at ss q)) (sym r.slots) h

        go : (ks : List ℕ) → s.kept ≡ ks → ((q : ℕ) → is_among ks q ≡ true → is_read (slot_at mid.slots.items q).stage ≡ false) → ((q : ℕ) → is_among ks q ≡ true → is_halted (slot_at mid.slots.items q).stage ≡ false) → TurnsWait new
        go [] is u w =
            let a : length mid.turns.items ≡ length (r.place ∷ r.later) = ap length r.turns in
            let b : length r.later ≡ 0 = ap length (held_later ∙ is) in
            absurd (omega (arith, some, a, b))
        go (k ∷ ks) is u w = inr (record {
          place = k;
          later = ks ++ s.rest;
          turns = held_turns ∙ ap (λ xs. xs ++ s.rest) is;
          unread = still (λ x. is_read x.stage ≡ false) k (u k (among_head k ks));
          wanted = still (λ x. is_halted x.stage ≡ false) k (w k (among_head k ks));
        })

  -- the first rows of a split are given, and the limit is met
  pub over_cut : (file : ℕ) (rows : R) (old mid new : Active W R) (before chunks chunks' : List (Chunk R)) (left here : Option ℕ) (why : Option DriveFault) (i : ℕ) → Over old mid before chunks left here why i → GivesRows file rows mid new →
      GivesFirst items file (items rows) chunks chunks' here → IsCut split comes items false old before chunks' left
  over_cut file rows old mid new before chunks chunks' left here why i s f g = record {
    most = n;
    was = sym s.counts.limit ∙ ap (limit_of (count (given items chunks))) g.was;
    met = met;
    groups = λ tale all ok later. some tale all ok later;
  }
    where
      n : ℕ
      n = count (given items chunks) + g.most

      met : count (given items chunks') ≡ n
      met = cut_count split comes items file rows chunks chunks' here g

      trims : Trims (given items chunks') (given items chunks ++ grouped file (items rows))
      trims = subst (λ gs. Trims gs (given items chunks ++ grouped file (items rows))) (sym g.groups)
          (trims_append (given items chunks) (given items chunks) (grouped file (take g.most (items rows))) (grouped file (items rows)) (trims_same (given items chunks)) (trims_group file g.most (items rows)))

      all_left : (tale : List (Told I)) → AllTell tale → AllOk split comes items tale old → (later : List (Group I)) → IsPermutation ((given items chunks ++ grouped file (items rows)) ++ (groups_left split comes items tale new ++ later))
          (given items before ++ (groups_left split comes items tale old ++ later))
      all_left tale all ok later =
          let left_new = groups_left split comes items tale new in
          let left_mid = groups_left split comes items tale mid in
          let left_old = groups_left split comes items tale old in
          let this = grouped file (items rows) in
          let a : (given items chunks ++ this) ++ (left_new ++ later) ≡ (given items chunks ++ left_mid) ++ later =
          sym (append_assoc (given items chunks ++ this) left_new later)
          ∙ ap (λ gs. gs ++ later) (append_assoc (given items chunks) this left_new ∙ ap (λ gs. given items chunks ++ gs) (sym (front_groups split comes items tale file rows mid new s.seated f all (s.ok tale ok)))) in
          subst (λ gs. IsPermutation gs (given items before ++ (left_old ++ later))) (sym a)
          (subst (IsPermutation ((given items chunks ++ left_mid) ++ later)) (append_assoc (given items before) left_old later)
          (IsPermutation-append_left later (given items chunks ++ left_mid) (given items before ++ left_old) (s.groups tale all ok)))

      some : (tale : List (Told I)) → AllTell tale → AllOk split comes items tale old → (later : List (Group I)) → AreSome (Some n) (given items before ++ (groups_left split comes items tale old ++ later)) (given items chunks')
      some tale all ok later = record {
        whole = trims.whole;
        others = trims.dropped ++ others;
        among = IsPermutation-trans (trims.whole ++ (trims.dropped ++ others)) (mine ++ others) whole
            (subst (λ gs. IsPermutation gs (mine ++ others)) (append_assoc trims.whole trims.dropped others) (IsPermutation-append_left others (trims.whole ++ trims.dropped) mine trims.among)) (all_left tale all ok later);
        fronts = trims.fronts;
        rows = rows_are;
        free = λ e. absurd cc;
      }
        where
          mine : List (Group I)
          mine = given items chunks ++ grouped file (items rows)

          others : List (Group I)
          others = groups_left split comes items tale new ++ later

          whole : List (Group I)
          whole = given items before ++ (groups_left split comes items tale old ++ later)

          rows_are : count (given items chunks') ≡ count (limited (Some n) whole)
          rows_are =
              let a = rows_cut n whole in
              let b = rows_any (mine ++ others) whole (all_left tale all ok later) in
              let c = rows_append mine others in
              let d = rows_append (given items chunks) (grouped file (items rows)) in
              let e = count_grouped file (items rows) in
              let w = g.within in
              let m = met in
              omega (arith, a, b, c, d, e, w, m)
