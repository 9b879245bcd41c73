-- What polls, deliveries and seats keep of the active splits.
use Rattle.std.proofs.Common.{◌≡◌, ℕ, ◌<◌, ◌≤◌, List, [], ◌∷◌, ◌++◌, get_or, Bool, true, false, ◌&&◌, Option, Some, None, IfSome, inl, inr, refl, sym, ap, ◌∙◌, subst, arith}
use Rattle.std.specs.Prelude.{◌⊎◌, IsSome}
use Rattle.scan_values.specs.Selections.{is_among}
use Rattle.scan_segments.specs.Source.{SourceState, Store}
use Rattle.scan_splits.specs.Arrivals.{Arrivals}
use Rattle.scan_drive.specs.Actives.{AreSeats, EachOk, SlotOk, groups_in, Keeps, groups_left}
use Rattle.scan_drive.specs.Asks.{LinkedBut, EachLinkedBut}
use Rattle.scan_drive.specs.Chunks.{given, IsMore, IsCut, IsDeliverFault}
use Rattle.scan_drive.specs.Desks.{Waiters, waits}
use Rattle.scan_drive.specs.Drives.{desk_at, EachLinked, FilesWithin, SourcesMove, SlotsKeep}
use Rattle.scan_drive.specs.Grants.{AreSame, AreGiven}
use Rattle.scan_drive.specs.Files.{Part, grouped, over, Told, told_at, untold, IfTold, AllTell}
use Rattle.scan_drive.specs.Links.{Linked}
use Rattle.scan_drive.specs.Looks.{FoundWaits, EachPolled, WaitsForAll, is_ended}
use Rattle.scan_drive.specs.Lost.{EndsBy}
use Rattle.scan_drive.specs.Measures.{is_there, slots_steps, EachAdvances}
use Rattle.scan_drive.specs.Moves.{IsNamed}
use Rattle.scan_drive.specs.Rounds.{IsReady, AreAsking, AskNamed}
use Rattle.scan_drive.specs.Slots.{slot_at, is_fresh, is_read, is_reading, is_halted, stage_waits, stage_rows, StageOk, SlotKeeps, EachKeeps, MayTake, wanted_in, slot_groups}
use Rattle.scan_drive.specs.Splits.{SplitState, Event, lacks}
use Rattle.scan_drive.specs.Turns.{IsGone, IsSeated, GivesOn, SameTurns}
use Rattle.scan_drive.specs.declared.active.Active.{Active}
use Rattle.scan_drive.specs.declared.delivery.Chunk.{Chunk}
use Rattle.scan_drive.specs.declared.delivery.DriveFault.{DriveFault}
use Rattle.scan_drive.specs.declared.delivery.DriveFault.TheVariants as fault
use Rattle.scan_drive.specs.declared.files.ScanFile.{ScanFile}
use Rattle.scan_drive.specs.declared.slot.Slot.{Slot}
use Rattle.scan_drive.specs.declared.slot.Stage.{Stage}
use Rattle.scan_drive.specs.declared.slot.Stage.TheVariants as stage
use Rattle.scan_drive.proofs.Asking.{moves_then, moves_weaker}
use Rattle.scan_drive.proofs.Keeping.{keeps_then}
use Rattle.scan_drive.proofs.Linking.{may_ask, new_place}
use Rattle.scan_drive.proofs.Nearing.{all_polled}
use Rattle.scan_drive.proofs.Ordering.{order_then, order_files}
use Rattle.scan_drive.proofs.Turning.{sum_advanced}

module _ {W R : Type 0} where
  empty_off : (x : Stage W R) → x ≡ stage.Empty → is_there x ≡ false
  empty_off x e = ap is_there e

  off_empty : (x : Stage W R) → is_there x ≡ false → x ≡ stage.Empty
  off_empty stage.Empty h = refl
  off_empty (stage.Reads r) h = absurd cc
  off_empty (stage.Read rows) h = absurd cc
  off_empty (stage.Halted r k) h = absurd cc

  -- a slot with a split is one of those whose turn comes
  pub there_among : (turns free : List ℕ) (slots : List (Slot W R)) (place : ℕ) → AreSeats turns free slots → is_there (slot_at slots place).stage ≡ true → is_among turns place ≡ true
  there_among turns free slots place s t = go (is_among turns place) refl
    where
      go : (b : Bool) → is_among turns place ≡ b → is_among turns place ≡ true
      go true e = e
      go false e = let bad = sym t ∙ ap is_there (s.empty place e) in absurd cc

  -- a split that waits takes nothing, and one that is there no more neither
  ended_waits : (x : Stage W R) (id : ℕ) → is_ended x ≡ true → stage_waits x id ≡ false
  ended_waits stage.Empty id h = refl
  ended_waits (stage.Reads r) id h = absurd cc
  ended_waits (stage.Read rows) id h = refl
  ended_waits (stage.Halted r k) id h = refl

  read_takes : (x : Stage W R) (id : ℕ) → is_read x ≡ true → (is_halted x ≡ false → stage_waits x id ≡ true) → ⊥
  read_takes stage.Empty id h t = absurd cc
  read_takes (stage.Reads r) id h t = absurd cc
  read_takes (stage.Read rows) id h t = let bad = t refl in absurd cc
  read_takes (stage.Halted r k) id h t = absurd cc

  empty_takes : (x : Stage W R) (id : ℕ) → x ≡ stage.Empty → (is_halted x ≡ false → stage_waits x id ≡ true) → ⊥
  empty_takes stage.Empty id h t = let bad = t refl in absurd cc
  empty_takes (stage.Reads r) id h t = let bad : true ≡ false = ap is_there h in absurd cc
  empty_takes (stage.Read rows) id h t = let bad : true ≡ false = ap is_there h in absurd cc
  empty_takes (stage.Halted r k) id h t = let bad : true ≡ false = ap is_there h in absurd cc

  -- rows that were taken leave the links
  pub but_gone : (asking : List ℕ) (desks : List Waiters) (old new : List (Slot W R)) → ((q : ℕ) → IsGone (slot_at old q) (slot_at new q)) → EachLinkedBut asking desks old → EachLinkedBut asking desks new
  but_gone asking desks old new g l k lt = record {
    file_is = λ id q w. file q (g q) ∙ b.file_is id q w;
    takes = λ id q w. takes id q (b.takes id q w) (g q);
    live = λ id q f m v. live id q f m v (g q);
    none = b.none;
  }
    where
      b : LinkedBut asking k (desk_at desks k) old
      b = l k lt

      file : (q : ℕ) → IsGone (slot_at old q) (slot_at new q) → (slot_at new q).file ≡ (slot_at old q).file
      file q (inl e) = ap (λ (s : Slot W R). s.file) e
      file q (inr e) = e.1

      takes : (id q : ℕ) → MayTake id (slot_at old q) → IsGone (slot_at old q) (slot_at new q) → MayTake id (slot_at new q)
      takes id q t (inl e) = subst (MayTake id) (sym e) t
      takes id q t (inr e) = absurd (read_takes (slot_at old q).stage id e.0 t)

      live : (id q : ℕ) → (slot_at new q).file ≡ k → is_among asking q ≡ false → stage_waits (slot_at new q).stage id ≡ true → IsGone (slot_at old q) (slot_at new q) → waits (desk_at desks k) id q ≡ true
      live id q f m v (inl e) = b.live id q (sym (ap (λ (s : Slot W R). s.file) e) ∙ f) m (sym (ap (λ (s : Slot W R). stage_waits s.stage id) e) ∙ v)
      live id q f m v (inr e) = let bad = sym (ap (λ (x : Stage W R). stage_waits x id) e.2) ∙ v in absurd cc

  -- splits that have become active leave the links
  pub linked_seated : (n : ℕ) (desks : List Waiters) (old new : List (Slot W R)) → ((q : ℕ) → IsSeated n (slot_at old q) (slot_at new q)) → EachLinked desks old → EachLinked desks new
  linked_seated n desks old new g l k lt = record {
    file_is = λ id q w. file id q w (b.takes id q w) (g q);
    takes = λ id q w. takes id q (b.takes id q w) (g q);
    live = λ id q f v. live id q f v (g q);
  }
    where
      b : Linked k (desk_at desks k) old
      b = l k lt

      file : (id q : ℕ) → waits (desk_at desks k) id q ≡ true → MayTake id (slot_at old q) → IsSeated n (slot_at old q) (slot_at new q) → (slot_at new q).file ≡ k
      file id q w t (inl e) = ap (λ (s : Slot W R). s.file) e ∙ b.file_is id q w
      file id q w t (inr e) = absurd (empty_takes (slot_at old q).stage id e.was t)

      takes : (id q : ℕ) → MayTake id (slot_at old q) → IsSeated n (slot_at old q) (slot_at new q) → MayTake id (slot_at new q)
      takes id q t (inl e) = subst (MayTake id) (sym e) t
      takes id q t (inr e) = absurd (empty_takes (slot_at old q).stage id e.was t)

      live : (id q : ℕ) → (slot_at new q).file ≡ k → stage_waits (slot_at new q).stage id ≡ true → IsSeated n (slot_at old q) (slot_at new q) → waits (desk_at desks k) id q ≡ true
      live id q f v (inl e) = b.live id q (sym (ap (λ (s : Slot W R). s.file) e) ∙ f) (sym (ap (λ (s : Slot W R). stage_waits s.stage id) e) ∙ v)
      live id q f v (inr e) = let bad : false ≡ true = sym (ap (λ (x : Stage W R). stage_waits x id) e.now) ∙ v in absurd cc

  pub within_gone : (n : ℕ) (old new : List (Slot W R)) → ((q : ℕ) → IsGone (slot_at old q) (slot_at new q)) → FilesWithin n old → FilesWithin n new
  within_gone n old new g w q t = go (g q)
    where
      go : IsGone (slot_at old q) (slot_at new q) → (slot_at new q).file < n
      go (inl e) = subst (λ (s : Slot W R). s.file < n) (sym e) (w q (sym (ap (λ (s : Slot W R). is_there s.stage) e) ∙ t))
      go (inr e) = let bad : false ≡ true = sym (ap is_there e.2) ∙ t in absurd cc

  pub within_seated : (n : ℕ) (old new : List (Slot W R)) → ((q : ℕ) → IsSeated n (slot_at old q) (slot_at new q)) → FilesWithin n old → FilesWithin n new
  within_seated n old new g w q t = go (g q)
    where
      go : IsSeated n (slot_at old q) (slot_at new q) → (slot_at new q).file < n
      go (inl e) = subst (λ (s : Slot W R). s.file < n) (sym e) (w q (sym (ap (λ (s : Slot W R). is_there s.stage) e) ∙ t))
      go (inr e) = e.file

  settled_gone : (old new : List (Slot W R)) → ((q : ℕ) → IsGone (slot_at old q) (slot_at new q)) → ((q : ℕ) → is_fresh (slot_at old q).stage ≡ false) → (q : ℕ) → is_fresh (slot_at new q).stage ≡ false
  settled_gone old new g f q = go (g q)
    where
      go : IsGone (slot_at old q) (slot_at new q) → is_fresh (slot_at new q).stage ≡ false
      go (inl e) = ap (λ (s : Slot W R). is_fresh s.stage) e ∙ f q
      go (inr e) = ap is_fresh e.2

  -- a slot whose split is being read stays
  reading_stays : (old new : Slot W R) → IsGone old new → is_reading old.stage ≡ true → new ≡ old
  reading_stays old new (inl e) r = e
  reading_stays old new (inr e) r = absurd (both old.stage r e.0)
    where
      both : (x : Stage W R) → is_reading x ≡ true → is_read x ≡ true → ⊥
      both stage.Empty a b = absurd cc
      both (stage.Reads x) a b = absurd cc
      both (stage.Read rows) a b = absurd cc
      both (stage.Halted x h) a b = absurd cc

module _ {W I R : Type 0} (split : W → SplitState I) where
  pub seated_advances : (turns free : List ℕ) (old new : List (Slot W R)) → EachAdvances split old new → AreSeats turns free old → AreSeats turns free new
  seated_advances turns free old new a s = record {
    once = s.once;
    within = λ q m. (let w = s.within q m in let n = a.len in omega (arith, w, n));
    empty = λ q m. off_empty (slot_at new q).stage ((a.at q).there ∙ empty_off (slot_at old q).stage (s.empty q m));
  }

  pub within_advances : (n : ℕ) (old new : List (Slot W R)) → EachAdvances split old new → FilesWithin n old → FilesWithin n new
  within_advances n old new a w q t = let f = w q (sym (a.at q).there ∙ t) in let e = (a.at q).file_is in omega (arith, f, e)

module _ {W I R : Type 0} (split : W → SplitState I) (comes : W → Arrivals → Store → Event → Type 0) (items : R → List I) where
  waits_all : (s t : Slot W R) → FoundWaits split comes items s.stage t.stage → WaitsForAll t
  waits_all s t f = record {
    reading = ap is_reading f.now;
    waits = λ id. ap (λ (x : Stage W R). stage_waits x id) f.now ∙ all id (is_among f.next.wanted id) refl ∙ sym (ap (λ (x : Stage W R). is_among (wanted_in x) id) f.now);
  }
    where
      all : (id : ℕ) (b : Bool) → is_among f.next.wanted id ≡ b → (is_among f.next.wanted id && lacks f.next.inbox id) ≡ is_among f.next.wanted id
      all id true m = ap (λ b. b && lacks f.next.inbox id) m ∙ ap (λ (i : Arrivals). lacks i id) f.inbox ∙ f.lacking.lacking id m ∙ sym m
      all id false m = ap (λ b. b && lacks f.next.inbox id) m ∙ sym m

  -- the links after polls
  but_polled : (asking : List ℕ) (desks : List Waiters) (old new : List (Slot W R)) → EachPolled split comes items asking old new → EachLinked desks old → EachLinkedBut asking desks new
  but_polled asking desks old new p l k lt = record {
    file_is = λ id q w. (p.at q).file_is ∙ b.file_is id q w;
    takes = λ id q w. takes id q w (b.takes id q w) (is_among asking q) refl;
    live = λ id q f m v. live id q (sym (p.at q).file_is ∙ f) v ((p.at q).other m);
    none = λ id q m. new_place k q (desk_at desks k) old b (let f = (p.at q).waits m in ap is_fresh f.was ∙ f.ready) id;
  }
    where
      b : Linked k (desk_at desks k) old
      b = l k lt

      takes : (id q : ℕ) → waits (desk_at desks k) id q ≡ true → MayTake id (slot_at old q) → (c : Bool) → is_among asking q ≡ c → MayTake id (slot_at new q)
      takes id q w t true m = let f = (p.at q).waits m in let none = new_place k q (desk_at desks k) old b (ap is_fresh f.was ∙ f.ready) id in let bad = sym w ∙ none in absurd cc
      takes id q w t false m = go ((p.at q).other m)
        where
          go : (slot_at new q ≡ slot_at old q) ⊎ ((is_fresh (slot_at old q).stage ≡ true) × (is_ended (slot_at new q).stage ≡ true) × EndsBy (slot_at old q).stage (slot_at new q).stage) → MayTake id (slot_at new q)
          go (inl e) = subst (MayTake id) (sym e) t
          go (inr e) = let none = new_place k q (desk_at desks k) old b e.0 id in let bad = sym w ∙ none in absurd cc

      live : (id q : ℕ) → (slot_at old q).file ≡ k → stage_waits (slot_at new q).stage id ≡ true
          → (slot_at new q ≡ slot_at old q) ⊎ ((is_fresh (slot_at old q).stage ≡ true) × (is_ended (slot_at new q).stage ≡ true) × EndsBy (slot_at old q).stage (slot_at new q).stage)
          → waits (desk_at desks k) id q ≡ true
      live id q f v (inl e) = b.live id q f (sym (ap (λ (s : Slot W R). stage_waits s.stage id) e) ∙ v)
      live id q f v (inr e) = let bad = sym (ended_waits (slot_at new q).stage id e.1) ∙ v in absurd cc

  -- slots that each step keeps keep their groups
  pub keeps_from : (tale : List (Told I)) (turns : List ℕ) (old new : List (Slot W R)) → ((q : ℕ) → (slot_at new q).file ≡ (slot_at old q).file)
      → ((q : ℕ) (p : Part I) (store : Store) → is_among turns q ≡ true → (told_at tale (slot_at old q).file).store ≡ Some store → SlotKeeps split comes items p store (slot_at old q) (slot_at new q))
      → Keeps split comes items tale turns old new
  keeps_from tale turns old new file h = record {
    left = λ all ok. left all turns (λ q m. m) (λ q m. ok q m);
    ok = λ ok q m. one q m (ok q m);
  }
    where
      stands : (q : ℕ) → is_among turns q ≡ true → (o : Option (Part I)) (s : Option Store) → (told_at tale (slot_at old q).file).store ≡ s
          → IfSome o (λ p. IfSome s (λ store. StageOk split comes items p store (slot_at old q).stage)) → IfSome o (λ p. IfSome s (λ store. StageOk split comes items p store (slot_at new q).stage))
      stands q m None s e t = tt
      stands q m (Some p) None e t = tt
      stands q m (Some p) (Some store) e t = (h q p store m e).ok t

      one : (q : ℕ) → is_among turns q ≡ true → SlotOk split comes items tale (slot_at old q) → SlotOk split comes items tale (slot_at new q)
      one q m s = record {
        within = let e = file q in let w = s.within in omega (arith, e, w);
        stands = subst (λ k. IfTold (told_at tale k) (λ p store. StageOk split comes items p store (slot_at new q).stage)) (sym (file q)) (stands q m (told_at tale (slot_at old q).file).part (told_at tale (slot_at old q).file).store refl s.stands);
      }

      group : (q : ℕ) → is_among turns q ≡ true → (o : Option (Part I)) (s : Option Store) → (told_at tale (slot_at old q).file).store ≡ s → IsSome o
          → IfSome o (λ p. IfSome s (λ store. StageOk split comes items p store (slot_at old q).stage))
          → over s (λ store. grouped (slot_at old q).file (stage_rows split comes items store (slot_at new q).stage)) ≡ over s
          (λ store. grouped (slot_at old q).file (stage_rows split comes items store (slot_at old q).stage))
      group q m None s e a t = absurd cc
      group q m (Some p) None e a t = refl
      group q m (Some p) (Some store) e a t = ap (grouped (slot_at old q).file) ((h q p store m e).rows t)

      groups : (q : ℕ) → is_among turns q ≡ true → AllTell tale → SlotOk split comes items tale (slot_at old q) → slot_groups split comes items tale (slot_at new q) ≡ slot_groups split comes items tale (slot_at old q)
      groups q m all s =
          ap (λ k. over (told_at tale k).store (λ store. grouped k (stage_rows split comes items store (slot_at new q).stage))) (file q)
          ∙ group q m (told_at tale (slot_at old q).file).part (told_at tale (slot_at old q).file).store refl (all (slot_at old q).file untold s.within).0 s.stands

      left : AllTell tale → (ts : List ℕ) → ((q : ℕ) → is_among ts q ≡ true → is_among turns q ≡ true) → ((q : ℕ) → is_among ts q ≡ true → SlotOk split comes items tale (slot_at old q)) → groups_in split comes items tale ts new ≡ groups_in split comes items tale ts old
      left all [] within ok = refl
      left all (t ∷ ts) within ok =
          ap (λ gs. gs ++ groups_in split comes items tale ts new) (groups t (within t (Rattle.scan_drive.proofs.Handing.among_head t ts)) all (ok t (Rattle.scan_drive.proofs.Handing.among_head t ts)))
          ∙ ap (λ gs. slot_groups split comes items tale (slot_at old t) ++ gs) (left all ts (λ q m. within q (Rattle.scan_drive.proofs.Handing.among_later t q ts m)) (λ q m. ok q (Rattle.scan_drive.proofs.Handing.among_later t q ts m)))

  pub keeps_each : (tale : List (Told I)) (turns : List ℕ) (old new : List (Slot W R)) → ((q : ℕ) → (slot_at new q).file ≡ (slot_at old q).file) → ((p : Part I) (store : Store) → EachKeeps split comes items p store old new) → Keeps split comes items tale turns old new
  keeps_each tale turns old new file h = keeps_from tale turns old new file (λ q p store m e. (h p store).at q)

  -- what splits want now their files name
  pub asks_named : (tale : List (Told I)) (asking turns free : List ℕ) (old mid new : List (Slot W R)) → AreSeats turns free old → EachPolled split comes items asking old mid → ((q : ℕ) → IsGone (slot_at mid q) (slot_at new q)) → EachOk split comes items tale turns old → AskNamed tale asking new
  asks_named tale asking turns free old mid new s p g ok k id w =
      let f = (p.at w.place).waits w.listed in
      let same : slot_at new w.place ≡ slot_at mid w.place = reading_stays (slot_at mid w.place) (slot_at new w.place) (g w.place) (ap is_reading f.now) in
      let here = there_among turns free old w.place s (ap is_there f.was) in
      let file : (slot_at old w.place).file ≡ k = sym (p.at w.place).file_is ∙ sym (ap (λ (z : Slot W R). z.file) same) ∙ w.file_is in
      let wanted : is_among (wanted_in (slot_at mid w.place).stage) id ≡ true = sym (ap (λ (z : Slot W R). is_among (wanted_in z.stage) id) same) ∙ w.wanted in
      subst (λ j. IsNamed (told_at tale j) id) file (named f wanted (told_at tale (slot_at old w.place).file).part (told_at tale (slot_at old w.place).file).store (ok w.place here).stands)
    where
      named : FoundWaits split comes items (slot_at old w.place).stage (slot_at mid w.place).stage → is_among (wanted_in (slot_at mid w.place).stage) id ≡ true
          → (o : Option (Part I)) (t : Option Store) → IfSome o (λ q. IfSome t (λ store. StageOk split comes items q store (slot_at old w.place).stage))
          → IfSome o (λ q. IfSome t (λ store. q.named store id ≡ true))
      named f m None t h = tt
      named f m (Some q) None h = tt
      named f m (Some q) (Some store) h = may_ask split comes items q store (slot_at old w.place).stage (slot_at mid w.place).stage f h id m

  -- ---- polls and a delivery, together
  pub ready_mid : (n : ℕ) (asking : List ℕ) (old mid : Active W R) → mid.turns ≡ old.turns → mid.free ≡ old.free → EachPolled split comes items asking old.slots.items mid.slots.items → IsReady n old → IsReady n mid
  ready_mid n asking old mid t f p r =
      let a = all_polled split comes items asking old.slots.items mid.slots.items p in
      record {
        seated = subst (λ ts. AreSeats ts.items mid.free.items mid.slots.items) (sym t) (subst (λ fs. AreSeats old.turns.items fs.items mid.slots.items) (sym f) (seated_advances split old.turns.items old.free.items old.slots.items mid.slots.items a r.seated));
        filled = λ q m. (a.at q).there ∙ r.filled q (sym (ap (λ ts. is_among ts.items q) t) ∙ m);
        within = within_advances split n old.slots.items mid.slots.items a r.within;
      }

  pub ready_new : (n : ℕ) (mid new : Active W R) → AreSeats new.turns.items new.free.items new.slots.items → GivesOn split mid new → IsReady n mid → IsReady n new
  ready_new n mid new s g r = record { seated = s; filled = g.filled r.filled; within = within_gone n mid.slots.items new.slots.items g.at r.within }

  pub asking_new : (asking : List ℕ) (old mid new : List (Slot W R)) → EachPolled split comes items asking old mid → ((q : ℕ) → is_fresh (slot_at mid q).stage ≡ false) → ((q : ℕ) → IsGone (slot_at mid q) (slot_at new q)) → AreAsking asking new
  asking_new asking old mid new p f g = record {
    settled = settled_gone mid new g f;
    waiting = λ q m. (let w = (p.at q).waits m in
        subst WaitsForAll (sym (reading_stays (slot_at mid q) (slot_at new q) (g q) (ap is_reading w.now))) (waits_all (slot_at old q) (slot_at mid q) w));
  }

  pub links_new : (asking : List ℕ) (desks : List Waiters) (old mid new : List (Slot W R)) → EachPolled split comes items asking old mid → ((q : ℕ) → IsGone (slot_at mid q) (slot_at new q)) → EachLinked desks old → EachLinkedBut asking desks new
  links_new asking desks old mid new p g l = but_gone asking desks mid new g (but_polled asking desks old mid p l)

  pub more_mid : (b : Bool) (old mid new : Active W R) (chunks chunks' : List (Chunk R)) (left left' : Option ℕ) → ((tale : List (Told I)) → Keeps split comes items tale old.turns.items old.slots.items mid.slots.items) → mid.turns ≡ old.turns → ((q : ℕ) →
      (slot_at mid.slots.items q).file ≡ (slot_at old.slots.items q).file) → IsMore split comes items b mid new chunks chunks' left left' → IsMore split comes items b old new chunks chunks' left left'
  more_mid b old mid new chunks chunks' left left' k t f m = record {
    groups = λ tale all ok. subst (AreSame b (given items chunks' ++ groups_left split comes items tale new))
        (ap (λ gs. given items chunks ++ gs) (ap (λ ts. groups_in split comes items tale ts.items mid.slots.items) t ∙ (k tale).left all ok))
        (m.groups tale all (subst (λ ts. EachOk split comes items tale ts.items mid.slots.items) (sym t) ((k tale).ok ok)));
    counts = m.counts;
    order = order_then old mid new (order_files old mid (λ i. (t i).items) f) m.order;
  }

  pub cut_mid : (b : Bool) (old mid : Active W R) (chunks chunks' : List (Chunk R)) (left : Option ℕ) → ((tale : List (Told I)) → Keeps split comes items tale old.turns.items old.slots.items mid.slots.items)
      → mid.turns ≡ old.turns → IsCut split comes items b mid chunks chunks' left → IsCut split comes items b old chunks chunks' left
  cut_mid b old mid chunks chunks' left k t c = record {
    most = c.most;
    was = c.was;
    met = c.met;
    groups = λ tale all ok later. subst (λ all. AreGiven b (Some c.most) all (given items chunks'))
        (ap (λ gs. given items chunks ++ (gs ++ later)) (ap (λ ts. groups_in split comes items tale ts.items mid.slots.items) t ∙ (k tale).left all ok))
        (c.groups tale all (subst (λ ts. EachOk split comes items tale ts.items mid.slots.items) (sym t) ((k tale).ok ok)) later);
  }

  pub fault_mid : (old mid new : Active W R) (chunks chunks' : List (Chunk R)) (left left' : Option ℕ) → ((tale : List (Told I)) → Keeps split comes items tale old.turns.items old.slots.items mid.slots.items) → mid.turns ≡ old.turns → ((q : ℕ) →
      (slot_at mid.slots.items q).file ≡ (slot_at old.slots.items q).file) → (e : DriveFault) → IsDeliverFault split comes items mid new chunks chunks' left left' e → IsDeliverFault split comes items old new chunks chunks' left left' e
  fault_mid old mid new chunks chunks' left left' k t f fault.NoMemory h = tt
  fault_mid old mid new chunks chunks' left left' k t f (fault.Source file id) h = record { turn = h.turn; rows = h.rows; more = more_mid true old mid new chunks chunks' left left' k t f h.more }
  fault_mid old mid new chunks chunks' left left' k t f (fault.Corrupt file id) h = record { turn = h.turn; rows = h.rows; more = more_mid true old mid new chunks chunks' left left' k t f h.more }
  fault_mid old mid new chunks chunks' left left' k t f (fault.Overflow file) h = record { turn = h.turn; rows = h.rows; more = more_mid true old mid new chunks chunks' left left' k t f h.more }

  -- splits that were polled are of the same files
  pub files_mid : (asking : List ℕ) (old mid : List (Slot W R)) (n : ℕ) → EachPolled split comes items asking old mid → FilesWithin n old → FilesWithin n mid
  files_mid asking old mid n p w = within_advances split n old mid (all_polled split comes items asking old mid p) w

  pub steps_mid : (asking : List ℕ) (old mid new : Active W R) → EachPolled split comes items asking old.slots.items mid.slots.items → mid.turns ≡ old.turns → GivesOn split mid new
      → (slots_steps split new.slots.items < slots_steps split old.slots.items) ⊎ ((slots_steps split new.slots.items ≤ slots_steps split old.slots.items) × (new.turns.items ≡ old.turns.items))
  steps_mid asking old mid new p t g = go g.nears
    where
      le : slots_steps split mid.slots.items ≤ slots_steps split old.slots.items
      le = sum_advanced split old.slots.items mid.slots.items (all_polled split comes items asking old.slots.items mid.slots.items p)

      go : SameTurns mid new ⊎ (slots_steps split new.slots.items < slots_steps split mid.slots.items) → (slots_steps split new.slots.items < slots_steps split old.slots.items) ⊎ ((slots_steps split new.slots.items ≤ slots_steps split old.slots.items) × (new.turns.items ≡ old.turns.items))
      go (inl e) = inr (subst (λ (ss : List (Slot W R)). slots_steps split ss ≤ slots_steps split old.slots.items) (sym e.0) le, e.1 ∙ (λ i. (t i).items))
      go (inr l) = inl (omega (arith, l, le))

module _ {O S W I R : Type 0} (source : S → SourceState) (split : W → SplitState I) (comes : W → Arrivals → Store → Event → Type 0) (items : R → List I) where
  pub sources_then : (May : ℕ → ℕ → Type 0) (a b c : List (ScanFile O S)) → SourcesMove source May a b → SourcesMove source (λ k id. ⊥) b c → SourcesMove source May a c
  sources_then May a b c p q = record {
    len = q.len ∙ p.len;
    opener = λ k f. q.opener k f ∙ p.opener k f;
    name = λ k f. q.name k f ∙ p.name k f;
    moves = λ k f. moves_then (May k) (source (get_or a k f).source) (source (get_or b k f).source) (source (get_or c k f).source) (p.moves k f) (moves_weaker (λ id. ⊥) (May k) (source (get_or b k f).source) (source (get_or c k f).source) (λ id n. absurd n) (q.moves k f));
  }

  pub slots_then : (May : ℕ → ℕ → Type 0) (a b : List (ScanFile O S)) (old mid new : List (Slot W R)) → SourcesMove source May a b → ((q : ℕ) → (slot_at mid q).file ≡ (slot_at old q).file)
      → SlotsKeep source split comes items a old mid → SlotsKeep source split comes items b mid new → SlotsKeep source split comes items a old new
  slots_then May a b old mid new m file p q f part store place told =
      keeps_then split comes items part store (slot_at old place) (slot_at mid place) (slot_at new place) (p f part store place told)
      (q f part store place (ap (λ k. (source (get_or b k f).source).holds) (file place) ∙ (m.moves (slot_at old place).file f).holds ∙ told))
