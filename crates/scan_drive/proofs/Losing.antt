-- Requests that fail, and the splits that are given up for them.
use Rattle.std.proofs.Common.{◌≡◌, ℕ, ◌<◌, List, [], ◌∷◌, length, get_or, set, Bool, true, false, ◌||◌, cond, eqb, refl, sym, ap, ◌∙◌, subst, arith, inl, inr}
use Rattle.std.specs.Prelude.{◌⊎◌}
use Rattle.std.proofs.lemmas.Bool.Decides.{nat_tests}
use Rattle.scan_values.specs.Selections.{is_among}
use Rattle.scan_segments.specs.Source.{SourceState}
use Rattle.scan_splits.specs.Wanted.{no_repeats, is_any}
use Rattle.scan_drive.specs.Ledger.{fails, KeepsBalance, KeepsReply, FilesKeepBalance}
use Rattle.scan_drive.specs.Losses.{HasHalted, HaltsStay, KeepsCounts, FilesKeepCounts}
use Rattle.scan_drive.specs.Measures.{stage_steps, IsNearer, EachAdvances}
use Rattle.scan_drive.specs.Splits.{SplitState}
use Rattle.scan_drive.specs.Slots.{slot_at, is_halted, stage_waits, given_up, at_each, MayTake, AllTake}
use Rattle.scan_drive.specs.Wants.{Cache}
use Rattle.scan_drive.specs.declared.desk.Reply.{Reply}
use Rattle.scan_drive.specs.declared.files.ScanFile.{ScanFile}
use Rattle.scan_drive.specs.declared.slot.Halt.{Halt}
use Rattle.scan_drive.specs.declared.slot.Slot.{Slot}
use Rattle.scan_drive.specs.declared.slot.Stage.{Stage}
use Rattle.scan_drive.specs.declared.slot.Stage.TheVariants as stage
use Rattle.scan_drive.proofs.Balancing.{balance_self, balance_then}
use Rattle.scan_drive.proofs.Filing.{files_balance, files_balance_then}
use Rattle.scan_drive.proofs.Linking.{each_at}

pub or_both : (a b lost : Bool) → (a || (b || lost)) ≡ ((a || b) || lost)
or_both true b lost = refl
or_both false b lost = refl

-- ---- splits that have been given up
module _ {W R : Type 0} where
  pub halts_self : (slots : List (Slot W R)) → HaltsStay slots slots
  halts_self slots place h = h

  pub halts_then : (old mid new : List (Slot W R)) → HaltsStay old mid → HaltsStay mid new → HaltsStay old new
  halts_then old mid new p q place h = q place (p place h)

  pub still_halted : (old new : List (Slot W R)) → HaltsStay old new → HasHalted old → HasHalted new
  still_halted old new p h = record { place = h.place; halted = p h.place h.halted }

  -- a split that waits, or is given up, is given up
  taken_halted : (id : ℕ) (h : Halt) (s : Slot W R) → MayTake id s → is_halted (given_up h s).stage ≡ true
  taken_halted id h s m = go s.stage refl m
    where
      go : (x : Stage W R) → s.stage ≡ x → (is_halted s.stage ≡ false → stage_waits s.stage id ≡ true) → is_halted (given_up h s).stage ≡ true
      go stage.Empty e m = let bad : false ≡ true = sym (ap (λ y. stage_waits y id) e) ∙ m (ap is_halted e) in absurd cc
      go (stage.Reads r) e m = rw e refl
      go (stage.Read rows) e m = let bad : false ≡ true = sym (ap (λ y. stage_waits y id) e) ∙ m (ap is_halted e) in absurd cc
      go (stage.Halted r g) e m = rw e refl

  -- those that waited for what failed are given up
  pub has_lost : (id : ℕ) (h : Halt) (places : List ℕ) (slots : List (Slot W R)) → AllTake id places slots → no_repeats places ≡ true → is_any places ≡ true → HasHalted (at_each (given_up h) places slots)
  has_lost id h [] slots take once any = absurd cc
  has_lost id h (p ∷ ps) slots take once any = record {
    place = p;
    halted = subst (λ (s : Slot W R). is_halted s.stage ≡ true) (sym (each_at id (given_up h) (p ∷ ps) slots p take once ∙ ap (λ b. cond b (given_up h (slot_at slots p)) (slot_at slots p)) here)) (taken_halted id h (slot_at slots p) (take p here));
  }
    where
      here : is_among (p ∷ ps) p ≡ true
      here = let on : eqb p p ≡ true = grind (arith, nat_tests) in rw on refl

-- ---- the counts, but for requests that failed
module _ {W R : Type 0} (name : List ℕ) where
  pub counts_self : (s : SourceState) (c : Cache) (slots : List (Slot W R)) → KeepsCounts name s s c c slots
  counts_self s c slots = record { failed = false; keeps = λ report lost. balance_self name s c report lost; halted = λ h. absurd cc }

  -- a poll that was answered so
  pub counts_reply : (s t : SourceState) (c d : Cache) (slots : List (Slot W R)) (r : Reply) → KeepsReply name s t c d r → (fails r ≡ true → HasHalted slots) → KeepsCounts name s t c d slots
  counts_reply s t c d slots r k h = record { failed = fails r; keeps = k; halted = h }

  pub counts_then : (s t u : SourceState) (c d e : Cache) (mid new : List (Slot W R)) → HaltsStay mid new → KeepsCounts name s t c d mid → KeepsCounts name t u d e new → KeepsCounts name s u c e new
  counts_then s t u c d e mid new stay p q = record {
    failed = q.failed || p.failed;
    keeps = λ report lost. subst (KeepsBalance name s u c e report report lost) (or_both q.failed p.failed lost)
        (balance_then name s t u c d e report report report lost (p.failed || lost) (q.failed || (p.failed || lost)) (p.keeps report lost) (q.keeps report (p.failed || lost)));
    halted = λ h. go q.failed refl h;
  }
    where
      go : (b : Bool) → q.failed ≡ b → (b || p.failed) ≡ true → HasHalted new
      go true e h = q.halted e
      go false e h = still_halted mid new stay (p.halted h)

module _ {O S W R : Type 0} (source : S → SourceState) where
  -- one file's step
  pub files_counts : (now : List (ScanFile O S)) (k : ℕ) (x y : ScanFile O S) (c d : Cache) (slots : List (Slot W R)) → k < length now → x ≡ get_or now k x → y.source_id ≡ x.source_id → KeepsCounts x.source_id (source x.source) (source y.source) c d slots
      → FilesKeepCounts source now (set now k y) c d slots
  files_counts now k x y c d slots lt e m h = record {
    failed = h.failed;
    keeps = λ report lost. files_balance source now k x y c d report report lost (h.failed || lost) lt e m (h.keeps report lost);
    halted = h.halted;
  }

  pub files_counts_then : (old mid new : List (ScanFile O S)) (c d e : Cache) (between slots : List (Slot W R)) → length mid ≡ length old → HaltsStay between slots → FilesKeepCounts source old mid c d between → FilesKeepCounts source mid new d e slots → FilesKeepCounts source old new c e slots
  files_counts_then old mid new c d e between slots n stay p q = record {
    failed = q.failed || p.failed;
    keeps = λ report lost. subst (FilesKeepBalance source old new c e report report lost) (or_both q.failed p.failed lost)
        (files_balance_then source old mid new c d e report report report lost (p.failed || lost) (q.failed || (p.failed || lost)) n (p.keeps report lost) (q.keeps report (p.failed || lost)));
    halted = λ h. go q.failed refl h;
  }
    where
      go : (b : Bool) → q.failed ≡ b → (b || p.failed) ≡ true → HasHalted slots
      go true e h = q.halted e
      go false e h = still_halted between slots stay (p.halted h)

-- a split that has been given up has no step left
module _ {W I R : Type 0} (split : W → SplitState I) where
  pub halts_advance : (old new : List (Slot W R)) → EachAdvances split old new → HaltsStay old new
  halts_advance old new adv place h = go (slot_at old place).stage refl (adv.at place).nears
    where
      go : (x : Stage W R) → (slot_at old place).stage ≡ x → (slot_at new place ≡ slot_at old place) ⊎ IsNearer split (slot_at old place) (slot_at new place) → is_halted (slot_at new place).stage ≡ true
      go x e (inl same) = ap (λ (s : Slot W R). is_halted s.stage) same ∙ h
      go stage.Empty e (inr n) = let bad : false ≡ true = sym (ap is_halted e) ∙ h in absurd cc
      go (stage.Reads r) e (inr n) = let bad : false ≡ true = sym (ap is_halted e) ∙ h in absurd cc
      go (stage.Read rows) e (inr n) = let bad : false ≡ true = sym (ap is_halted e) ∙ h in absurd cc
      go (stage.Halted r k) e (inr n) = let none : stage_steps split (slot_at old place).stage ≡ 0 = ap (stage_steps split) e in absurd (omega (arith, none, n))
