-- Splits of which the first rows are kept: what is given of them is the first rows of some of the groups that were there.
use Rattle.std.proofs.Common.{◌≡◌, ℕ, zero, suc, ◌≤◌, true, false, List, [], ◌∷◌, ◌++◌, length, take, min, Option, Some, None, inl, inr, refl, sym, ap, ◌∙◌, subst, arith, append_assoc, append-nil, IsPermutation}
use Rattle.std.specs.Prelude.{◌⊎◌}
use Rattle.std.proofs.lemmas.List.Sorted.{IsPermutation-refl, IsPermutation-cons, IsPermutation-trans, IsPermutation-append, IsPermutation-append_left, IsPermutation-append_right, IsPermutation-append_comm}
use Rattle.scan_segments.specs.Source.{Store}
use Rattle.scan_splits.specs.Arrivals.{Arrivals}
use Rattle.scan_drive.specs.Actives.{AreSeats, SlotOk, EachOk, AllOk, Keeps, groups_in, groups_left}
use Rattle.scan_drive.specs.Chunks.{given, IsCut}
use Rattle.scan_drive.specs.Drives.{FilesWithin, NoneOf}
use Rattle.scan_drive.specs.Files.{Group, grouped, count, over, Part, Told, told_at}
use Rattle.scan_drive.specs.Grants.{IsFront, AreFronts, AreSome}
use Rattle.scan_drive.specs.Lost.{has_come, IsLost, EachFollows}
use Rattle.scan_drive.specs.Measures.{is_there}
use Rattle.scan_drive.specs.Slots.{slot_at, slot_groups, stage_rows, IsTrimmed}
use Rattle.scan_drive.specs.Splits.{SplitState, Event}
use Rattle.scan_drive.specs.declared.active.Active.{Active}
use Rattle.scan_drive.specs.declared.delivery.Chunk.{Chunk}
use Rattle.scan_drive.specs.declared.slot.Halt.{Halt}
use Rattle.scan_drive.specs.declared.slot.Halt.TheVariants as halt
use Rattle.scan_drive.specs.declared.slot.Slot.{Slot}
use Rattle.scan_drive.specs.declared.slot.Stage.TheVariants as stage
use Rattle.scan_drive.proofs.Same.{along_permutation, rows_append, rows_any, rows_cut, fronts_itself, fronts_append}

some-not : (n : ℕ) → ◌≡◌ {A = Option ℕ} (Some n) None → ⊥
some-not n e = cc

module _ {I : Type 0} where
  -- ---- fronts
  take_take : (m n : ℕ) (xs : List I) → take m (take n xs) ≡ take (min m n) xs
  take_take zero n xs = let z : min 0 n ≡ 0 = omega arith in sym (ap (λ k. take k xs) z)
  take_take (suc m) zero xs = let z : min (suc m) 0 ≡ 0 = omega arith in sym (ap (λ k. take k xs) z)
  take_take (suc m) (suc n) [] = let z : min (suc m) (suc n) ≡ suc (min m n) = omega arith in sym (ap (λ k. take k []) z)
  take_take (suc m) (suc n) (x ∷ xs) = let z : min (suc m) (suc n) ≡ suc (min m n) = omega arith in ap (λ ys. x ∷ ys) (take_take m n xs) ∙ sym (ap (λ k. take k (x ∷ xs)) z)

  front_then : (g h w : Group I) → IsFront g h → IsFront h w → IsFront g w
  front_then g h w a b = record { file = a.file ∙ b.file; most = min a.most b.most; rows = a.rows ∙ ap (take a.most) b.rows ∙ take_take a.most b.most w.1 }

  fronts_then : (gs hs ws : List (Group I)) → AreFronts gs hs → AreFronts hs ws → AreFronts gs ws
  fronts_then [] [] ws a b = b
  fronts_then [] (h ∷ hs) ws a b = absurd a
  fronts_then (g ∷ gs) [] ws a b = absurd a
  fronts_then (g ∷ gs) (h ∷ hs) [] a b = absurd b
  fronts_then (g ∷ gs) (h ∷ hs) (w ∷ ws) a b = (front_then g h w a.0 b.0, fronts_then gs hs ws a.1 b.1)

  shorter : (n : ℕ) (xs : List I) → length (take n xs) ≤ length xs
  shorter zero xs = omega arith
  shorter (suc n) [] = omega arith
  shorter (suc n) (x ∷ xs) = let r = shorter n xs in omega (arith, r)

  fronts_fewer : (gs ws : List (Group I)) → AreFronts gs ws → count gs ≤ count ws
  fronts_fewer [] [] h = omega arith
  fronts_fewer [] (w ∷ ws) h = absurd h
  fronts_fewer (g ∷ gs) [] h = absurd h
  fronts_fewer (g ∷ gs) (w ∷ ws) h =
      let r = fronts_fewer gs ws h.1 in
      let a : length g.1 ≡ length (take h.0.most w.1) = ap length h.0.rows in
      let b = shorter h.0.most w.1 in
      omega (arith, r, a, b)

  -- groups whose fronts stand in another order
  pub record Lifted (gs ws : List (Group I)) : Type 0 where
    pub of : List (Group I)
    pub fronts : AreFronts gs of
    pub same : IsPermutation of ws

  pub fronts_lift : (gs hs : List (Group I)) → IsPermutation gs hs → (ws : List (Group I)) → AreFronts hs ws → Lifted gs ws
  fronts_lift = along_permutation (λ gs hs. (ws : List (Group I)) → AreFronts hs ws → Lifted gs ws)
      (λ gs ws h. record { of = ws; fronts = h; same = IsPermutation-refl ws })
      under over-two
      (λ gs hs ks p q ws h. (let b = q ws h in let a = p b.of b.fronts in record { of = a.of; fronts = a.fronts; same = IsPermutation-trans a.of b.of ws a.same b.same }))
    where
      under : (g : Group I) (gs hs : List (Group I)) → ((ws : List (Group I)) → AreFronts hs ws → Lifted gs ws) → (ws : List (Group I)) → AreFronts (g ∷ hs) ws → Lifted (g ∷ gs) ws
      under g gs hs r [] h = absurd h
      under g gs hs r (w ∷ ws) h = let a = r ws h.1 in record { of = w ∷ a.of; fronts = (h.0, a.fronts); same = IsPermutation-cons w a.of ws a.same }

      over-two : (g h : Group I) (gs : List (Group I)) (ws : List (Group I)) → AreFronts (h ∷ g ∷ gs) ws → Lifted (g ∷ h ∷ gs) ws
      over-two g h gs [] f = absurd f
      over-two g h gs (w ∷ []) f = absurd f.1
      over-two g h gs (w ∷ v ∷ ws) f = record { of = v ∷ w ∷ ws; fronts = (f.1.0, (f.0, f.1.1)); same = IsPermutation-append_left ws (v ∷ w ∷ []) (w ∷ v ∷ []) (IsPermutation-append_comm (v ∷ []) (w ∷ [])) }

  -- fronts of two lists
  pub record Parted (gs hs ws : List (Group I)) : Type 0 where
    pub first : List (Group I)
    pub later : List (Group I)
    pub whole : ws ≡ first ++ later
    pub fronts : AreFronts gs first

  fronts_part : (gs hs ws : List (Group I)) → AreFronts (gs ++ hs) ws → Parted gs hs ws
  fronts_part [] hs ws h = record { first = []; later = ws; whole = refl; fronts = tt }
  fronts_part (g ∷ gs) hs [] h = absurd h
  fronts_part (g ∷ gs) hs (w ∷ ws) h =
      let r = fronts_part gs hs ws h.1 in
      record { first = w ∷ r.first; later = r.later; whole = ap (λ vs. w ∷ vs) r.whole; fronts = (h.0, r.fronts) }

  -- ---- groups of which some have first rows alone, and others none
  pub record Trims (gs ms : List (Group I)) : Type 0 where
    pub whole : List (Group I)
    pub dropped : List (Group I)
    pub among : IsPermutation (whole ++ dropped) ms
    pub fronts : AreFronts gs whole

  pub trims_same : (gs : List (Group I)) → Trims gs gs
  trims_same gs = record { whole = gs; dropped = []; among = subst (λ ms. IsPermutation ms gs) (sym (append-nil gs)) (IsPermutation-refl gs); fronts = fronts_itself gs }

  pub trims_append : (gs ms hs ns : List (Group I)) → Trims gs ms → Trims hs ns → Trims (gs ++ hs) (ms ++ ns)
  trims_append gs ms hs ns a b = record {
    whole = a.whole ++ b.whole;
    dropped = a.dropped ++ b.dropped;
    among = IsPermutation-trans ((a.whole ++ b.whole) ++ (a.dropped ++ b.dropped)) ((a.whole ++ a.dropped) ++ (b.whole ++ b.dropped)) (ms ++ ns) mixed
        (IsPermutation-append (a.whole ++ a.dropped) ms (b.whole ++ b.dropped) ns a.among b.among);
    fronts = fronts_append gs a.whole hs b.whole a.fronts b.fronts;
  }
    where
      inner : IsPermutation (b.whole ++ (a.dropped ++ b.dropped)) (a.dropped ++ (b.whole ++ b.dropped))
      inner = subst (λ xs. IsPermutation xs (a.dropped ++ (b.whole ++ b.dropped))) (append_assoc b.whole a.dropped b.dropped)
          (subst (IsPermutation ((b.whole ++ a.dropped) ++ b.dropped)) (append_assoc a.dropped b.whole b.dropped)
          (IsPermutation-append_left b.dropped (b.whole ++ a.dropped) (a.dropped ++ b.whole) (IsPermutation-append_comm b.whole a.dropped)))

      mixed : IsPermutation ((a.whole ++ b.whole) ++ (a.dropped ++ b.dropped)) ((a.whole ++ a.dropped) ++ (b.whole ++ b.dropped))
      mixed = subst (λ xs. IsPermutation xs ((a.whole ++ a.dropped) ++ (b.whole ++ b.dropped))) (sym (append_assoc a.whole b.whole (a.dropped ++ b.dropped)))
          (subst (IsPermutation (a.whole ++ (b.whole ++ (a.dropped ++ b.dropped)))) (sym (append_assoc a.whole a.dropped (b.whole ++ b.dropped)))
          (IsPermutation-append_right a.whole (b.whole ++ (a.dropped ++ b.dropped)) (a.dropped ++ (b.whole ++ b.dropped)) inner))

  pub trims_group : (file n : ℕ) (xs : List I) → Trims (grouped file (take n xs)) (grouped file xs)
  trims_group file zero xs = record { whole = []; dropped = grouped file xs; among = IsPermutation-refl (grouped file xs); fronts = tt }
  trims_group file (suc n) [] = trims_same []
  trims_group file (suc n) (x ∷ xs) = record { whole = (file, x ∷ xs) ∷ []; dropped = []; among = IsPermutation-refl ((file, x ∷ xs) ∷ []); fronts = (record { file = refl; most = suc n; rows = refl }, tt) }

  trims_over : (o : Option Store) (f g : Store → List (Group I)) → ((store : Store) → Trims (f store) (g store)) → Trims (over o f) (over o g)
  trims_over None f g h = trims_same []
  trims_over (Some store) f g h = h store

  -- so many of the first rows of trimmed groups are the first rows of some of the groups
  pub some_trimmed : (n : ℕ) (ts ms gs : List (Group I)) → n ≤ count ts → Trims ts ms → AreSome (Some n) ts gs → AreSome (Some n) ms gs
  some_trimmed n ts ms gs le t s = record {
    whole = part.first;
    others = part.later ++ t.dropped;
    among = all;
    fronts = fronts_then gs s.whole part.first s.fronts part.fronts;
    rows = s.rows ∙ rows_cut n ts ∙ enough ∙ sym (rows_cut n ms);
    free = λ none. absurd (some-not n none);
  }
    where
      lift : Lifted (s.whole ++ s.others) t.whole
      lift = fronts_lift (s.whole ++ s.others) ts s.among t.whole t.fronts

      part : Parted s.whole s.others lift.of
      part = fronts_part s.whole s.others lift.of lift.fronts

      all : IsPermutation (part.first ++ (part.later ++ t.dropped)) ms
      all =
          subst (λ xs. IsPermutation xs ms) (append_assoc part.first part.later t.dropped)
          (subst (λ xs. IsPermutation (xs ++ t.dropped) ms) part.whole
          (IsPermutation-trans (lift.of ++ t.dropped) (t.whole ++ t.dropped) ms (IsPermutation-append_left t.dropped lift.of t.whole lift.same) t.among))

      more : count ts ≤ count ms
      more =
          let a = fronts_fewer ts t.whole t.fronts in
          let b = rows_append t.whole t.dropped in
          let c = rows_any (t.whole ++ t.dropped) ms t.among in
          omega (arith, a, b, c)

      enough : min n (count ts) ≡ min n (count ms)
      enough = let m = more in omega (arith, m, le)

module _ {W I R : Type 0} (split : W → SplitState I) (comes : W → Arrivals → Store → Event → Type 0) (items : R → List I) where
  trims_slot : (tale : List (Told I)) (old new : Slot W R) → IsTrimmed items old new → Trims (slot_groups split comes items tale new) (slot_groups split comes items tale old)
  trims_slot tale old new (inl e) = subst (λ s. Trims (slot_groups split comes items tale s) (slot_groups split comes items tale old)) (sym e) (trims_same (slot_groups split comes items tale old))
  trims_slot tale old new (inr k) =
      subst (λ s. Trims (slot_groups split comes items tale s) (slot_groups split comes items tale old)) (sym k.now)
      (trims_over (told_at tale old.file).store (λ store. grouped old.file (items k.first)) (λ store. grouped old.file (stage_rows split comes items store old.stage)) one)
    where
      one : (store : Store) → Trims (grouped old.file (items k.first)) (grouped old.file (stage_rows split comes items store old.stage))
      one store =
          subst (λ xs. Trims (grouped old.file xs) (grouped old.file (stage_rows split comes items store old.stage))) (sym k.taken)
          (subst (λ s. Trims (grouped old.file (take k.most (items k.rows))) (grouped old.file (stage_rows split comes items store s))) (sym k.was) (trims_group old.file k.most (items k.rows)))

  trims_in : (tale : List (Told I)) (turns : List ℕ) (old new : List (Slot W R)) → ((place : ℕ) → IsTrimmed items (slot_at old place) (slot_at new place)) → Trims (groups_in split comes items tale turns new) (groups_in split comes items tale turns old)
  trims_in tale [] old new h = trims_same []
  trims_in tale (p ∷ ps) old new h =
      trims_append (slot_groups split comes items tale (slot_at new p)) (slot_groups split comes items tale (slot_at old p)) (groups_in split comes items tale ps new) (groups_in split comes items tale ps old)
      (trims_slot tale (slot_at old p) (slot_at new p) (h p)) (trims_in tale ps old new h)

  pub trimmed_ok : (tale : List (Told I)) (turns : List ℕ) (old new : List (Slot W R)) → ((place : ℕ) → IsTrimmed items (slot_at old place) (slot_at new place)) → EachOk split comes items tale turns old → EachOk split comes items tale turns new
  trimmed_ok tale turns old new h ok place m = go (h place) (ok place m)
    where
      told : (o : Option (Part I)) (s : Option Store) → Rattle.std.specs.Prelude.IfSome o (λ p. Rattle.std.specs.Prelude.IfSome s (λ store. Unit {0}))
      told None s = tt
      told (Some p) None = tt
      told (Some p) (Some store) = tt

      go : IsTrimmed items (slot_at old place) (slot_at new place) → SlotOk split comes items tale (slot_at old place) → SlotOk split comes items tale (slot_at new place)
      go (inl e) s = subst (SlotOk split comes items tale) (sym e) s
      go (inr k) s = subst (SlotOk split comes items tale) (sym k.now) (record { within = s.within; stands = told (told_at tale (slot_at old place).file).part (told_at tale (slot_at old place).file).store })

  -- the limit is met by splits that were polled and trimmed
  pub cut_trimmed : (old new : Active W R) (mid : List (Slot W R)) (chunks chunks' : List (Chunk R)) (left : Option ℕ) → new.turns ≡ old.turns
      → ((tale : List (Told I)) → Keeps split comes items tale old.turns.items old.slots.items mid) → ((place : ℕ) → IsTrimmed items (slot_at mid place) (slot_at new.slots.items place))
      → IsCut split comes items false new chunks chunks' left → IsCut split comes items false old chunks chunks' left
  cut_trimmed old new mid chunks chunks' left same keeps h c = record {
    most = c.most;
    was = c.was;
    met = c.met;
    groups = λ tale all ok later.
        (let turns : new.turns.items ≡ old.turns.items = ap (λ ts. ts.items) same in
        let ok' : AllOk split comes items tale new = subst (λ ts. EachOk split comes items tale ts new.slots.items) (sym turns) (trimmed_ok tale old.turns.items mid new.slots.items h ((keeps tale).ok ok)) in
        let s = c.groups tale all ok' later in
        let before : List (Group I) = given items chunks in
        let left_new : List (Group I) = groups_left split comes items tale new in
        let left_old : List (Group I) = groups_left split comes items tale old in
        let in_mid : Trims (groups_in split comes items tale old.turns.items new.slots.items) left_old = subst (Trims (groups_in split comes items tale old.turns.items new.slots.items)) ((keeps tale).left all ok) (trims_in tale old.turns.items mid new.slots.items h) in
        let trims : Trims left_new left_old = subst (λ ts. Trims (groups_in split comes items tale ts new.slots.items) left_old) (sym turns) in_mid in
        let many : c.most ≤ count (before ++ (left_new ++ later)) = (let a = s.rows in let b = rows_cut c.most (before ++ (left_new ++ later)) in let m = c.met in omega (arith, a, b, m)) in
        some_trimmed c.most (before ++ (left_new ++ later)) (before ++ (left_old ++ later)) (given items chunks') many
        (trims_append before before (left_new ++ later) (left_old ++ later) (trims_same before) (trims_append left_new left_old later later trims (trims_same later))) s);
  }

module _ {W I R : Type 0} (items : R → List I) (old new : List (Slot W R)) (h : (place : ℕ) → IsTrimmed items (slot_at old place) (slot_at new place)) where
  -- a fact of slots of which none is read
  trimmed_file : (place : ℕ) → (slot_at new place).file ≡ (slot_at old place).file
  trimmed_file place = go (h place)
    where
      go : IsTrimmed items (slot_at old place) (slot_at new place) → (slot_at new place).file ≡ (slot_at old place).file
      go (inl e) = ap (λ (s : Slot W R). s.file) e
      go (inr k) = ap (λ (s : Slot W R). s.file) k.now

  trimmed_there : (place : ℕ) → is_there (slot_at new place).stage ≡ is_there (slot_at old place).stage
  trimmed_there place = go (h place)
    where
      go : IsTrimmed items (slot_at old place) (slot_at new place) → is_there (slot_at new place).stage ≡ is_there (slot_at old place).stage
      go (inl e) = ap (λ (s : Slot W R). is_there s.stage) e
      go (inr k) = ap (λ (s : Slot W R). is_there s.stage) k.now ∙ sym (ap is_there k.was)

  -- their seats are the same
  pub trimmed_seats : (turns free : List ℕ) → length new ≡ length old → AreSeats turns free old → AreSeats turns free new
  trimmed_seats turns free len s = record {
    once = s.once;
    within = λ place m. (let w = s.within place m in omega (arith, w, len));
    empty = λ place m. go place (s.empty place m) (h place);
  }
    where
      go : (place : ℕ) → (slot_at old place).stage ≡ stage.Empty → IsTrimmed items (slot_at old place) (slot_at new place) → (slot_at new place).stage ≡ stage.Empty
      go place e (inl same) = ap (λ (x : Slot W R). x.stage) same ∙ e
      go place e (inr k) = let bad : true ≡ false = sym (ap is_there k.was) ∙ ap is_there e in absurd cc

  -- they are of the same files
  pub trimmed_within : (n : ℕ) → FilesWithin n old → FilesWithin n new
  trimmed_within n w place there = let x = w place (sym (trimmed_there place) ∙ there) in let e = trimmed_file place in omega (arith, x, e)

  -- and nothing came for them, nor was one given up
  pub trimmed_follows : EachFollows NoneOf NoneOf old new
  trimmed_follows place = record {
    there = λ t. (sym (trimmed_there place) ∙ t, trimmed_file place);
    came = λ id c. inl (came id (h place) c);
    failed = λ id l. inl (lost (halt.Source id) (h place) l);
    spoilt = λ id l. inl (lost (halt.Corrupt id) (h place) l);
  }
    where
      came : (id : ℕ) → IsTrimmed items (slot_at old place) (slot_at new place) → has_come (slot_at new place).stage id ≡ true → has_come (slot_at old place).stage id ≡ true
      came id (inl e) c = sym (ap (λ (s : Slot W R). has_come s.stage id) e) ∙ c
      came id (inr k) c = let bad : false ≡ true = sym (ap (λ (s : Slot W R). has_come s.stage id) k.now) ∙ c in absurd cc

      lost : (x : Halt) → IsTrimmed items (slot_at old place) (slot_at new place) → IsLost x (slot_at new place).stage → IsLost x (slot_at old place).stage
      lost x (inl e) l = subst (λ (s : Slot W R). IsLost x s.stage) e l
      lost x (inr k) l = absurd (subst (λ (s : Slot W R). IsLost x s.stage) k.now l)
