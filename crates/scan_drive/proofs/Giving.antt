-- What is given moves from the active splits to the chunks, and a limit cuts it.
use Rattle.std.proofs.Common.{◌≡◌, ◌≢◌, ℕ, suc, zero, ◌+◌, ◌-◌, ◌<◌, ◌≤◌, List, [], ◌∷◌, ◌++◌, length, take, Bool, true, false, Option, Some, None, inl, inr, refl, sym, ap, ◌∙◌, subst, arith, append_assoc, append-nil}
use Rattle.std.specs.Prelude.{option_map, IsSome, IfSome}
use Rattle.scan_values.specs.Selections.{is_among}
use Rattle.scan_segments.specs.Source.{Store}
use Rattle.scan_splits.specs.Arrivals.{Arrivals}
use Rattle.scan_drive.specs.Actives.{GivesRows, IsHalted, Stays, AreSeats, Seated, SlotOk, AllOk, groups_in, groups_left}
use Rattle.scan_drive.specs.Chunks.{limit_of, HasRoom, Fits, fault_of, given, AddsFile, KeepsFiles, KeepsRows, GivesAll, GivesFirst, IsCause, IsCut, IsMore, IsDeliverFault}
use Rattle.scan_drive.specs.Files.{Group, grouped, count, cut, Part, Told, told_at, untold, over, AllTell, IfTold}
use Rattle.scan_drive.specs.Measures.{is_there}
use Rattle.scan_drive.specs.Slots.{slot_at, is_read, slot_groups, StageOk, HaltAt}
use Rattle.scan_drive.specs.Splits.{SplitState, Event}
use Rattle.scan_drive.specs.Turns.{IsGone}
use Rattle.scan_drive.specs.declared.active.Active.{Active}
use Rattle.scan_drive.specs.declared.delivery.Chunk.{Chunk}
use Rattle.scan_drive.specs.declared.slot.Halt.{Halt}
use Rattle.scan_drive.specs.declared.slot.Halt.TheVariants as halt
use Rattle.scan_drive.specs.declared.slot.Slot.{Slot}
use Rattle.scan_drive.specs.declared.slot.Stage.TheVariants as stage
use Rattle.scan_drive.proofs.Handing.{among_head, among_later}
use Rattle.scan_drive.proofs.Ordering.{order_none, order_then, order_stays, order_rows}
use Rattle.scan_drive.proofs.Resting.{groups_others}
use Rattle.scan_drive.proofs.Same.{same_refl}
use Rattle.scan_drive.proofs.Seating.{apart_front}

-- counts after the rows of a split
counts_after : (n k : ℕ) (left left' : Option ℕ) → Fits k left → left' ≡ option_map (λ m. m - k) left → (limit_of (n + k) left' ≡ limit_of n left) × HasRoom left'
counts_after n k None left' f e = (ap (limit_of (n + k)) e, subst HasRoom (sym e) tt)
counts_after n k (Some m) left' f e =
    let z : n + k + (m - k) ≡ n + m = omega arith in
    let room : 0 < m - k = omega arith in
    (ap (limit_of (n + k)) e ∙ ap Some z, subst HasRoom (sym e) room)

module _ {I : Type 0} where
  pub count_append : (gs hs : List (Group I)) → count (gs ++ hs) ≡ count gs + count hs
  count_append [] hs = omega arith
  count_append (g ∷ gs) hs = let r = count_append gs hs in omega arith

  pub count_grouped : (file : ℕ) (xs : List I) → count (grouped file xs) ≡ length xs
  count_grouped file [] = refl
  count_grouped file (x ∷ xs) = omega arith

  pub cut_zero : (gs : List (Group I)) → cut 0 gs ≡ []
  cut_zero [] = refl
  cut_zero (g ∷ gs) = let z : 0 - length g.1 ≡ 0 = omega arith in ap (λ n. cut n gs) z ∙ cut_zero gs

  pub take_all : (xs : List I) (n : ℕ) → length xs ≤ n → take n xs ≡ xs
  take_all [] zero le = refl
  take_all [] (suc n) le = refl
  take_all (x ∷ xs) zero le = absurd (omega arith)
  take_all (x ∷ xs) (suc n) le = ap (λ ys. x ∷ ys) (take_all xs n (omega arith))

  pub take_some : (xs : List I) (n : ℕ) → n ≤ length xs → length (take n xs) ≡ n
  take_some [] zero le = refl
  take_some [] (suc n) le = absurd (omega arith)
  take_some (x ∷ xs) zero le = refl
  take_some (x ∷ xs) (suc n) le = let r = take_some xs n (omega arith) in omega arith

  -- a limit behind a group leaves it whole
  pub cut_group : (file : ℕ) (xs : List I) (n : ℕ) (rest : List (Group I)) → cut (length xs + n) (grouped file xs ++ rest) ≡ grouped file xs ++ cut n rest
  cut_group file [] n rest = let z : 0 + n ≡ n = omega arith in ap (λ k. cut k rest) z
  cut_group file (x ∷ xs) n rest =
      let all = take_all (x ∷ xs) (length (x ∷ xs) + n) (omega arith) in
      let z : length (x ∷ xs) + n - length (x ∷ xs) ≡ n = omega arith in
      ap (λ ys. grouped file ys ++ cut (length (x ∷ xs) + n - length (x ∷ xs)) rest) all ∙ ap (λ k. grouped file (x ∷ xs) ++ cut k rest) z

  -- one within a group cuts it
  pub cut_within : (file : ℕ) (xs : List I) (n : ℕ) (rest : List (Group I)) → n ≤ length xs → cut n (grouped file xs ++ rest) ≡ grouped file (take n xs)
  cut_within file [] n rest le = let z : n ≡ 0 = omega arith in let none : List I = [] in ap (λ k. cut k rest) z ∙ cut_zero rest ∙ sym (ap (λ k. grouped file (take k none)) z)
  cut_within file (x ∷ xs) n rest le =
      let z : n - length (x ∷ xs) ≡ 0 = omega arith in
      ap (λ k. grouped file (take n (x ∷ xs)) ++ cut k rest) z ∙ ap (λ gs. grouped file (take n (x ∷ xs)) ++ gs) (cut_zero rest) ∙ append-nil (grouped file (take n (x ∷ xs)))

module _ {I R : Type 0} (items : R → List I) where
  pub cut_past : (chunks : List (Chunk R)) (k : ℕ) (rest : List (Group I)) → cut (count (given items chunks) + k) (given items chunks ++ rest) ≡ given items chunks ++ cut k rest
  cut_past [] k rest = let z : 0 + k ≡ k = omega arith in ap (λ n. cut n rest) z
  cut_past (c ∷ chunks) k rest =
      let xs = items c.rows in
      let n : count (given items (c ∷ chunks)) + k ≡ length xs + (count (given items chunks) + k) = let a = count_append (grouped c.file xs) (given items chunks) in let b = count_grouped c.file xs in omega arith in
      ap (λ m. cut m (given items (c ∷ chunks) ++ rest)) n
      ∙ ap (cut (length xs + (count (given items chunks) + k))) (append_assoc (grouped c.file xs) (given items chunks) rest)
      ∙ cut_group c.file xs (count (given items chunks) + k) (given items chunks ++ rest)
      ∙ ap (λ gs. grouped c.file xs ++ gs) (cut_past chunks k rest)
      ∙ sym (append_assoc (grouped c.file xs) (given items chunks) (cut k rest))

  pub gives_all : (file : ℕ) (rows : List I) (chunks chunks' : List (Chunk R)) (n : ℕ) (left left' : Option ℕ) → given items chunks' ≡ given items chunks ++ grouped file rows → n ≡ length rows → Fits n left → left' ≡ option_map (λ m. m - n) left →
      GivesAll items file rows chunks chunks' left left'
  gives_all file rows chunks chunks' n left left' g k f e =
      let c : count (given items chunks') ≡ count (given items chunks) + n = ap count g ∙ count_append (given items chunks) (grouped file rows) ∙ (let b = count_grouped file rows in omega arith) in
      let both = counts_after (count (given items chunks)) n left left' f e in
      record { groups = g; counts = record { limit = ap (λ m. limit_of m left') c ∙ both.0; room = both.1 } }

module _ {W I R : Type 0} (split : W → SplitState I) (comes : W → Arrivals → Store → Event → Type 0) (items : R → List I) where
  over_told : (o : Option Store) (gs : List (Group I)) → IsSome o → over o (λ store. gs) ≡ gs
  over_told None gs some = absurd cc
  over_told (Some store) gs some = refl

  -- the slots of later turns are as before
  later_same : (tale : List (Told I)) (file : ℕ) (rows : R) (old new : Active W R) → Seated old → GivesRows file rows old new → groups_left split comes items tale new ≡ groups_in split comes items tale new.turns.items old.slots.items
  later_same tale file rows old new seats f = groups_others split comes items tale new.turns.items f.place (record { file = file; stage = stage.Empty }) old.slots.items new.slots.items (apart_front old.turns.items old.free.items f.place new.turns.items seats.once f.turns) f.becomes

  pub front_ok : (tale : List (Told I)) (file : ℕ) (rows : R) (old new : Active W R) → Seated old → GivesRows file rows old new → AllOk split comes items tale old → AllOk split comes items tale new
  front_ok tale file rows old new seats f ok q m =
      let off = apart_front old.turns.items old.free.items f.place new.turns.items seats.once f.turns in
      let other : q ≢ f.place = λ e. (let bad = sym off ∙ sym (ap (is_among new.turns.items) e) ∙ m in absurd cc) in
      subst (SlotOk split comes items tale) (sym (f.becomes.others q other)) (ok q (ap (λ (xs : List ℕ). is_among xs q) f.turns ∙ among_later f.place q new.turns.items m))

  pub front_groups : (tale : List (Told I)) (file : ℕ) (rows : R) (old new : Active W R) → Seated old → GivesRows file rows old new → AllTell tale → AllOk split comes items tale old →
      groups_left split comes items tale old ≡ grouped file (items rows) ++ groups_left split comes items tale new
  front_groups tale file rows old new seats f all ok =
      let this : Slot W R = record { file = file; stage = stage.Read rows } in
      let here = ok f.place (ap (λ (xs : List ℕ). is_among xs f.place) f.turns ∙ among_head f.place new.turns.items) in
      let sits : SlotOk split comes items tale this = subst (SlotOk split comes items tale) f.was here in
      let told = (all file untold sits.within).1 in
      let one : slot_groups split comes items tale (slot_at old.slots.items f.place) ≡ grouped file (items rows) = ap (slot_groups split comes items tale) f.was ∙ over_told (told_at tale file).store (grouped file (items rows)) told in
      ap (λ ts. groups_in split comes items tale ts old.slots.items) f.turns
      ∙ ap (λ gs. gs ++ groups_in split comes items tale new.turns.items old.slots.items) one
      ∙ ap (λ gs. grouped file (items rows) ++ gs) (sym (later_same tale file rows old new seats f))

  -- nothing is given yet
  pub more_none : (b : Bool) (a : Active W R) (chunks : List (Chunk R)) (left : Option ℕ) → HasRoom left → IsMore split comes items b a a chunks chunks left left
  more_none b a chunks left room = record { groups = λ tale all ok. same_refl b (given items chunks ++ groups_left split comes items tale a); counts = record { limit = refl; room = room }; order = order_none a }

  stays_groups : (tale : List (Told I)) (old new : Active W R) → Stays old new → groups_left split comes items tale new ≡ groups_left split comes items tale old
  stays_groups tale old new s = ap (λ ts. groups_in split comes items tale ts.items new.slots.items) s.turns ∙ ap (groups_in split comes items tale old.turns.items) s.slots

  pub stays_ok : (tale : List (Told I)) (old new : Active W R) → Stays old new → AllOk split comes items tale old → AllOk split comes items tale new
  stays_ok tale old new s ok q m = subst (λ (slots : List (Slot W R)). SlotOk split comes items tale (slot_at slots q)) (sym s.slots) (ok q (sym (ap (λ ts. is_among ts.items q) s.turns) ∙ m))

  pub more_stays : (old mid new : Active W R) (chunks chunks' : List (Chunk R)) (left left' : Option ℕ) → IsMore split comes items true old mid chunks chunks' left left' → Stays mid new → IsMore split comes items true old new chunks chunks' left left'
  more_stays old mid new chunks chunks' left left' m s = record { groups = λ tale all ok. ap (λ gs. given items chunks' ++ gs) (stays_groups tale mid new s) ∙ m.groups tale all ok; counts = m.counts; order = order_then old mid new m.order (order_stays mid new s) }

  -- the rows of the split whose turn it is are given
  pub more_rows : (file : ℕ) (rows : R) (old mid new : Active W R) (chunks now chunks' : List (Chunk R)) (left here left' : Option ℕ) → Seated mid → ((tale : List (Told I)) → AllOk split comes items tale old → AllOk split comes items tale mid) →
      IsMore split comes items true old mid chunks now left here → GivesRows file rows mid new → GivesAll items file (items rows) now chunks' here left' → IsMore split comes items true old new chunks chunks' left left'
  more_rows file rows old mid new chunks now chunks' left here left' seats keeps m f g = record {
    groups = λ tale all ok.
        ap (λ gs. gs ++ groups_left split comes items tale new) g.groups
        ∙ append_assoc (given items now) (grouped file (items rows)) (groups_left split comes items tale new)
        ∙ ap (λ gs. given items now ++ gs) (sym (front_groups tale file rows mid new seats f all (keeps tale ok)))
        ∙ m.groups tale all ok;
    counts = record { limit = g.counts.limit ∙ m.counts.limit; room = g.counts.room };
    order = order_then old mid new m.order (order_rows file rows mid new f);
  }

  -- as many rows are given then as the limit has
  pub cut_count : (file : ℕ) (rows : R) (now chunks' : List (Chunk R)) (here : Option ℕ) → (g : GivesFirst items file (items rows) now chunks' here) → count (given items chunks') ≡ count (given items now) + g.most
  cut_count file rows now chunks' here g =
      let a : count (given items chunks') ≡ count (given items now ++ grouped file (take g.most (items rows))) = ap count g.groups in
      let b = count_append (given items now) (grouped file (take g.most (items rows))) in
      let c = count_grouped file (take g.most (items rows)) in
      let d = take_some (items rows) g.most g.within in
      omega (arith, a, b, c, d)

  -- the first of them are, and the limit is met
  pub cut_rows : (file : ℕ) (rows : R) (old mid new : Active W R) (chunks now chunks' : List (Chunk R)) (left here : Option ℕ) → Seated mid → ((tale : List (Told I)) → AllOk split comes items tale old → AllOk split comes items tale mid) →
      IsMore split comes items true old mid chunks now left here → GivesRows file rows mid new → GivesFirst items file (items rows) now chunks' here → IsCut split comes items true old chunks chunks' left
  cut_rows file rows old mid new chunks now chunks' left here seats keeps m f g = record {
    most = count (given items now) + g.most;
    was = sym m.counts.limit ∙ ap (limit_of (count (given items now))) g.was;
    met = met;
    groups = λ tale all ok later.
        let n = count (given items now) + g.most in
        let rows_now = grouped file (items rows) in
        let left_new = groups_left split comes items tale new in
        let left_mid = groups_left split comes items tale mid in
        g.groups
        ∙ ap (λ gs. given items now ++ gs) (sym (cut_within file (items rows) g.most (left_new ++ later) g.within))
        ∙ sym (cut_past items now g.most (rows_now ++ (left_new ++ later)))
        ∙ ap (λ gs. cut n (given items now ++ gs)) (sym (append_assoc rows_now left_new later))
        ∙ ap (λ gs. cut n (given items now ++ (gs ++ later))) (sym (front_groups tale file rows mid new seats f all (keeps tale ok)))
        ∙ ap (cut n) (sym (append_assoc (given items now) left_mid later))
        ∙ ap (λ gs. cut n (gs ++ later)) (m.groups tale all ok)
        ∙ ap (cut n) (append_assoc (given items chunks) (groups_left split comes items tale old) later);
  }
    where
      met : count (given items chunks') ≡ count (given items now) + g.most
      met = cut_count file rows now chunks' here g

  halt_told : (o : Option (Part I)) (s : Option Store) (h : Halt) (P : Part I → Store → Type 0) → ((p : Part I) (store : Store) → P p store → HaltAt p store h) → IfSome o (λ p. IfSome s (λ store. P p store)) → IfSome o (λ p. IfSome s (λ store. HaltAt p store h))
  halt_told None s h P f i = tt
  halt_told (Some p) None h P f i = tt
  halt_told (Some p) (Some store) h P f i = f p store i

  -- why the split whose turn it is was given up
  pub halted_cause : (tale : List (Told I)) (file : ℕ) (h : Halt) (a : Active W R) → IsHalted file h a → AllOk split comes items tale a → IsCause tale (fault_of file h)
  halted_cause tale file h a is ok =
      let this : Slot W R = record { file = file; stage = stage.Halted is.run h } in
      let here = ok is.place (ap (λ (xs : List ℕ). is_among xs is.place) is.turns ∙ among_head is.place is.later) in
      let sits : SlotOk split comes items tale this = subst (SlotOk split comes items tale) is.was here in
      let why : IfTold (told_at tale file) (λ p store. HaltAt p store h) = halt_told (told_at tale file).part (told_at tale file).store h (λ p store. StageOk split comes items p store (stage.Halted is.run h)) (λ p store x. x.1) sits.stands in
      go h why
    where
      go : (k : Halt) → IfTold (told_at tale file) (λ p store. HaltAt p store k) → IsCause tale (fault_of file k)
      go (halt.Source id) w = tt
      go (halt.Corrupt id) w = w
      go halt.Overflow w = w
      go halt.NoMemory w = tt

-- a chunk of a file of which an active split was
pub files_rows : {W R : Type 0} (file : ℕ) (rows : R) (slots : List (Slot W R)) (mid new : Active W R) (chunks now chunks' : List (Chunk R)) → ((q : ℕ) → IsGone (slot_at slots q) (slot_at mid.slots.items q)) → GivesRows file rows mid new →
    KeepsFiles slots chunks now → AddsFile file now chunks' → KeepsFiles slots chunks chunks'
files_rows {W} {R} file rows slots mid new chunks now chunks' gone f keeps adds n within all = adds n (go (gone f.place)) (keeps n within all)
  where
    go : IsGone (slot_at slots f.place) (slot_at mid.slots.items f.place) → file < n
    go (inl same) =
        let was = sym same ∙ f.was in
        subst (λ (s : Slot W R). s.file < n) was (within f.place (ap (λ (s : Slot W R). is_there s.stage) was))
    go (inr e) = let bad : true ≡ false = sym (ap (λ (s : Slot W R). is_read s.stage) f.was) ∙ ap is_read e.2 in absurd cc

pub stays_halted : {W R : Type 0} (file : ℕ) (h : Halt) (old new : Active W R) → IsHalted file h old → Stays old new → IsHalted file h new
stays_halted file h old new is s = record {
  place = is.place;
  later = is.later;
  run = is.run;
  turns = ap (λ ts. ts.items) s.turns ∙ is.turns;
  was = ap (λ slots. slot_at slots is.place) s.slots ∙ is.was;
}

pub stays_seated : {W R : Type 0} (old new : Active W R) → Stays old new → Seated old → Seated new
stays_seated {W} {R} old new s h =
    subst (λ ts. AreSeats ts.items new.free.items new.slots.items) (sym s.turns) (subst (λ fs. AreSeats old.turns.items fs.items new.slots.items) (sym s.free) (subst (λ (slots : List (Slot W R)). AreSeats old.turns.items old.free.items slots) (sym s.slots) h))

-- the fault of a split that was given up
pub held_fault : {W I R : Type 0} (split : W → SplitState I) (comes : W → Arrivals → Store → Event → Type 0) (items : R → List I) (file : ℕ) (h : Halt) (old new : Active W R) (chunks chunks' : List (Chunk R)) (left left' : Option ℕ) → IsHalted file h new →
    KeepsRows items chunks chunks' → IsMore split comes items true old new chunks chunks' left left' → IsDeliverFault split comes items old new chunks chunks' left left' (fault_of file h)
held_fault split comes items file (halt.Source id) old new chunks chunks' left left' t r m = record { turn = t; rows = r; more = m }
held_fault split comes items file (halt.Corrupt id) old new chunks chunks' left left' t r m = record { turn = t; rows = r; more = m }
held_fault split comes items file halt.Overflow old new chunks chunks' left left' t r m = record { turn = t; rows = r; more = m }
held_fault split comes items file halt.NoMemory old new chunks chunks' left left' t r m = tt
