-- Rounds keep the books and counts up to the last, and then all splits are served.
use Rattle.std.proofs.Common.{◌≡◌, ◌≢◌, ℕ, ◌+◌, ◌<◌, ◌≤◌, List, [], ◌∷◌, length, get_or, Bool, true, false, ◌||◌, eqb, Option, Some, None, inl, inr, refl, sym, ap, ◌∙◌, subst, arith}
use Rattle.std.specs.Prelude.{◌⊎◌}
use Rattle.std.proofs.lemmas.Bool.{cases_eq}
use Rattle.std.proofs.lemmas.Bool.Decides.{nat_tests}
use Rattle.std.proofs.lemmas.List.{get_or_default}
use Rattle.scan_values.specs.Selections.{is_among}
use Rattle.scan_segments.specs.Source.{SourceState}
use Rattle.scan_splits.specs.Wanted.{is_any}
use Rattle.scan_drive.specs.Accounts.{AllServed, RunsOut, RunEnds}
use Rattle.scan_drive.specs.Asks.{EachLinkedBut}
use Rattle.scan_drive.specs.Desks.{Waiters, waiters_at, is_in, HasWaiter, IsAwaited}
use Rattle.scan_drive.specs.Drives.{desk_at, EachLinked}
use Rattle.scan_drive.specs.Losses.{HaltsStay, FilesBalance}
use Rattle.scan_drive.specs.Slots.{slot_at, is_halted, stage_waits}
use Rattle.scan_drive.specs.Wants.{Cache}
use Rattle.scan_drive.specs.declared.files.ScanFile.{ScanFile}
use Rattle.scan_drive.specs.declared.report.ScanReport.{ScanReport}
use Rattle.scan_drive.specs.declared.round.Drive.{Drive}
use Rattle.scan_drive.specs.declared.slot.Slot.{Slot}
use Rattle.scan_drive.specs.declared.slot.Stage.TheVariants as stage
use Rattle.scan_drive.proofs.Halting.{round_self, round_then}
use Rattle.scan_drive.proofs.Losing.{halts_self, halts_then}

-- ---- desks
-- the request of an id that was live at first is dropped: a place waited for it
pub waits_first : (old now : Waiters) (id : ℕ) (places : List ℕ) → (now ≡ old) ⊎ HasWaiter old → waiters_at now id ≡ Some places → is_any places ≡ true → HasWaiter old
waits_first old now id places (inr w) at any = w
waits_first old now id [] (inl e) at any = absurd cc
waits_first old now id (p ∷ ps) (inl e) at any = record { id = id; place = p; waits_there = ap (λ d. is_in (waiters_at d id) p) (sym e) ∙ ap (λ o. is_in o p) at ∙ ap (λ b. b || is_among ps p) same }
  where
    same : eqb p p ≡ true
    same = grind (arith, nat_tests)

pub awaited_end : (old now : Waiters) → (now ≡ old) ⊎ HasWaiter old → now ≡ [] → IsAwaited old
awaited_end old now (inl e) none = inl (sym e ∙ none)
awaited_end old now (inr w) none = inr w

-- no id is live any more
pub gone : (o : Option ℕ) (now : Waiters) → ((id : ℕ) → o ≡ Some id → ⊥) → (o ≡ None → now ≡ []) → now ≡ []
gone None now h k = k refl
gone (Some id) now h k = absurd (h id refl)

-- one desk more was closed
pub awaited_next : (desks old : List Waiters) (i : ℕ) (x : Waiters) → i < length desks → x ≡ get_or desks i x → ((k : ℕ) → i ≤ k → desk_at desks k ≡ desk_at old k) → ((k : ℕ) → k < i → IsAwaited (desk_at old k)) → IsAwaited x → (k : ℕ) → k < i + 1 → IsAwaited (desk_at old k)
awaited_next desks old i x lt e rest h now k l = go (cases_eq k i)
  where
    go : (k ≡ i) ⊎ (k ≢ i) → IsAwaited (desk_at old k)
    go (inl is) = subst (λ j. IsAwaited (desk_at old j)) (sym is) (subst IsAwaited (e ∙ get_or_default desks i x [] lt ∙ rest i (omega arith)) now)
    go (inr other) = h k (omega (arith, l, other))

-- ---- the end of a drive
module _ {W R : Type 0} where
  never_halted : (old new : List (Slot W R)) → HaltsStay old new → (place : ℕ) → is_halted (slot_at new place).stage ≡ false → is_halted (slot_at old place).stage ≡ false
  never_halted old new stay place off = go (is_halted (slot_at old place).stage) refl
    where
      go : (b : Bool) → is_halted (slot_at old place).stage ≡ b → is_halted (slot_at old place).stage ≡ false
      go true e = let bad : false ≡ true = sym off ∙ stay place e in absurd cc
      go false e = e

  -- no split is there any more
  pub runs_out : (asking : List ℕ) (old new : List (Slot W R)) → ((place : ℕ) → (slot_at new place).stage ≡ stage.Empty) → HaltsStay old new → ((desks : List Waiters) → EachLinked desks old → EachLinkedBut asking desks new) → RunsOut old
  runs_out asking old new empty stay links desks l = record {
    halts = λ place. never_halted old new stay place (ap is_halted (empty place));
    waits = λ k lt w.
        let there = (links desks l k lt).takes w.id w.place w.waits_there (ap is_halted (empty w.place)) in
        let bad : false ≡ true = sym (ap (λ x. stage_waits x w.id) (empty w.place)) ∙ there in
        absurd cc;
  }

  -- the same of splits before some became active
  pub out_before : (old mid : List (Slot W R)) → HaltsStay old mid → ((desks : List Waiters) → EachLinked desks old → EachLinked desks mid) → RunsOut mid → RunsOut old
  out_before old mid stay links out desks l = record {
    halts = λ place. never_halted old mid stay place ((out desks (links desks l)).halts place);
    waits = (out desks (links desks l)).waits;
  }

-- ---- rounds
module _ {O S W R : Type 0} (source : S → SourceState) where
  -- steps that others follow
  abbrev pub Goes : List (ScanFile O S) → List (ScanFile O S) → Cache → Cache → ScanReport → ScanReport → List (Slot W R) → List (Slot W R) → Type 0
  Goes a b c d r x old new = HaltsStay old new × FilesBalance source a b c d r x new

  pub run_self : (files : List (ScanFile O S)) (c : Cache) (r : ScanReport) (slots : List (Slot W R)) → Goes files files c c r r slots slots
  run_self files c r slots = (halts_self slots, round_self source files c r slots)

  pub run_then : (a b e : List (ScanFile O S)) (c0 c1 c2 : Cache) (r0 r1 r2 : ScanReport) (s0 s1 s2 : List (Slot W R)) → length b ≡ length a → Goes a b c0 c1 r0 r1 s0 s1 → Goes b e c1 c2 r1 r2 s1 s2 → Goes a e c0 c2 r0 r2 s0 s2
  run_then a b e c0 c1 c2 r0 r1 r2 s0 s1 s2 n p q = (halts_then s0 s1 s2 p.0 q.0, round_then source a b e c0 c1 c2 r0 r1 r2 s1 s2 n q.0 p.1 q.1)

module _ {O S W R F : Type 0} (source : S → SourceState) where
  -- the last round after some
  pub run_last : (limit : Option ℕ) (a b e : List (ScanFile O S)) (desks : List Waiters) (c0 c1 c2 : Cache) (d0 d1 d2 : Drive W R F) → length b ≡ length a → Goes source a b c0 c1 d0.report d1.report d0.active.slots.items d1.active.slots.items →
      FilesBalance source b e c1 c2 d1.report d2.report d1.active.slots.items → (limit ≡ None → AllServed desks d1.active.slots.items) → RunEnds source limit a e desks c0 c2 d0 d2
  run_last limit a b e desks c0 c1 c2 d0 d1 d2 n p q served = record {
    slots = d1.active.slots.items;
    stay = p.0;
    balance = round_then source a b e c0 c1 c2 d0.report d1.report d2.report d1.active.slots.items d1.active.slots.items n (halts_self d1.active.slots.items) p.1 q;
    served = served;
  }

  -- rounds up to the last after some
  pub run_end : (limit now : Option ℕ) (a b e : List (ScanFile O S)) (desks : List Waiters) (c0 c1 c2 : Cache) (d0 d1 d2 : Drive W R F) → length b ≡ length a → now ≡ limit →
      Goes source a b c0 c1 d0.report d1.report d0.active.slots.items d1.active.slots.items → RunEnds source now b e desks c1 c2 d1 d2 → RunEnds source limit a e desks c0 c2 d0 d2
  run_end limit now a b e desks c0 c1 c2 d0 d1 d2 n same p q = record {
    slots = q.slots;
    stay = halts_then d0.active.slots.items d1.active.slots.items q.slots p.0 q.stay;
    balance = round_then source a b e c0 c1 c2 d0.report d1.report d2.report d1.active.slots.items q.slots n q.stay p.1 q.balance;
    served = λ none. q.served (same ∙ none);
  }

-- ---- chunks
