-- Splits that were given up stay so, and the counts over several steps.
use Rattle.std.proofs.Common.{◌≡◌, ℕ, List, length, get_or, Bool, true, false, ◌||◌, inl, inr, refl, sym, ap, ◌∙◌, subst}
use Rattle.std.specs.Prelude.{All}
use Rattle.scan_values.specs.Selections.{is_among}
use Rattle.scan_segments.specs.Source.{SourceState, Store, none_live}
use Rattle.scan_splits.specs.Arrivals.{Arrivals}
use Rattle.scan_drive.specs.Ledger.{Balance, books_of, FilesKeepBalance, FilesKeepReport}
use Rattle.scan_drive.specs.Looks.{IsPolled, EachPolled}
use Rattle.scan_drive.specs.Losses.{HasHalted, HaltsStay, FilesKeepCounts, FilesBalance}
use Rattle.scan_drive.specs.Slots.{slot_at, is_halted, is_fresh, is_read}
use Rattle.scan_drive.specs.Splits.{SplitState, Event}
use Rattle.scan_drive.specs.Traffic.{capped_report}
use Rattle.scan_drive.specs.Turns.{IsGone, IsSeated, GivesOn, SeatsOn}
use Rattle.scan_drive.specs.Wants.{Cache}
use Rattle.scan_drive.specs.declared.active.Active.{Active}
use Rattle.scan_drive.specs.declared.files.ScanFile.{ScanFile}
use Rattle.scan_drive.specs.declared.phase.Phase.{Phase}
use Rattle.scan_drive.specs.declared.report.ScanReport.{ScanReport}
use Rattle.scan_drive.specs.declared.slot.Slot.{Slot}
use Rattle.scan_drive.specs.declared.slot.Stage.{Stage}
use Rattle.scan_drive.specs.declared.slot.Stage.TheVariants as stage
use Rattle.scan_drive.proofs.Filing.{files_balance_self, files_balance_then, files_balance_same, balance_starts}
use Rattle.scan_drive.proofs.Losing.{or_both, still_halted}

module _ {W R : Type 0} where
  not_fresh : (x : Stage W R) → is_fresh x ≡ true → is_halted x ≡ true → ⊥
  not_fresh stage.Empty f h = absurd cc
  not_fresh (stage.Reads r) f h = absurd cc
  not_fresh (stage.Read rows) f h = absurd cc
  not_fresh (stage.Halted r k) f h = absurd cc

  not_read : (x : Stage W R) → is_read x ≡ true → is_halted x ≡ true → ⊥
  not_read stage.Empty f h = absurd cc
  not_read (stage.Reads r) f h = absurd cc
  not_read (stage.Read rows) f h = absurd cc
  not_read (stage.Halted r k) f h = absurd cc

  gone_halted : (old new : Slot W R) → IsGone old new → is_halted old.stage ≡ true → is_halted new.stage ≡ true
  gone_halted old new (inl e) h = ap (λ (s : Slot W R). is_halted s.stage) e ∙ h
  gone_halted old new (inr g) h = absurd (not_read old.stage g.0 h)

  seated_halted : (n : ℕ) (old new : Slot W R) → IsSeated n old new → is_halted old.stage ≡ true → is_halted new.stage ≡ true
  seated_halted n old new (inl e) h = ap (λ (s : Slot W R). is_halted s.stage) e ∙ h
  seated_halted n old new (inr g) h = let bad : false ≡ true = sym (ap is_halted g.was) ∙ h in absurd cc

module _ {W I R : Type 0} (split : W → SplitState I) where
  -- rows were given
  pub halts_gives : (old new : Active W R) → GivesOn split old new → HaltsStay old.slots.items new.slots.items
  halts_gives old new g place h = gone_halted (slot_at old.slots.items place) (slot_at new.slots.items place) (g.at place) h

  -- splits became active
  pub halts_seats : {F : Type 0} (first last : ℕ) (old new : Active W R) (ps qs : List (Phase W F)) → SeatsOn split first last old new ps qs → HaltsStay old.slots.items new.slots.items
  halts_seats first last old new ps qs s place h = seated_halted (length ps) (slot_at old.slots.items place) (slot_at new.slots.items place) (s.at place) h

module _ {W I R : Type 0} (split : W → SplitState I) (comes : W → Arrivals → Store → Event → Type 0) (items : R → List I) where
  -- splits were polled
  pub halts_polled : (asking : List ℕ) (old new : List (Slot W R)) → EachPolled split comes items asking old new → HaltsStay old new
  halts_polled asking old new p place h = go (is_among asking place) (p.at place)
    where
      go : (b : Bool) → IsPolled split comes items b (slot_at old place) (slot_at new place) → is_halted (slot_at new place).stage ≡ true
      go true q = let w = q.waits refl in let bad : false ≡ true = sym (ap is_halted w.was) ∙ h in absurd cc
      go false q = elim (q.other refl) [ inl e ↦ ap (λ (z : Slot W R). is_halted z.stage) e ∙ h | inr e ↦ absurd (not_fresh (slot_at old place).stage e.0 h) ]

-- ---- several steps
module _ {O S W R : Type 0} (source : S → SourceState) where
  pub round_self : (files : List (ScanFile O S)) (c : Cache) (report : ScanReport) (slots : List (Slot W R)) → FilesBalance source files files c c report report slots
  round_self files c report slots = record { failed = false; keeps = λ lost. files_balance_self source files c report lost; halted = λ h. absurd cc }

  -- wants that were counted
  pub round_report : (old new : List (ScanFile O S)) (c d : Cache) (report after : ScanReport) (slots : List (Slot W R)) → FilesKeepReport source old new c d report after → FilesBalance source old new c d report after slots
  round_report old new c d report after slots k = record { failed = false; keeps = k; halted = λ h. absurd cc }

  -- polls of requests
  pub round_counts : (old new : List (ScanFile O S)) (c d : Cache) (report : ScanReport) (slots : List (Slot W R)) → FilesKeepCounts source old new c d slots → FilesBalance source old new c d report report slots
  round_counts old new c d report slots k = record { failed = k.failed; keeps = k.keeps report; halted = k.halted }

  -- files whose sources and names are as before
  pub round_same : (old new : List (ScanFile O S)) (c : Cache) (report : ScanReport) (slots : List (Slot W R)) → length new ≡ length old → ((k : ℕ) (f : ScanFile O S) → (get_or new k f).source ≡ (get_or old k f).source)
      → ((k : ℕ) (f : ScanFile O S) → (get_or new k f).source_id ≡ (get_or old k f).source_id) →
      FilesBalance source old new c c report report slots
  round_same old new c report slots n s m = record { failed = false; keeps = λ lost. files_balance_same source old new c report lost n s m; halted = λ h. absurd cc }

  pub round_then : (old mid new : List (ScanFile O S)) (c d e : Cache) (r x y : ScanReport) (between slots : List (Slot W R)) → length mid ≡ length old → HaltsStay between slots → FilesBalance source old mid c d r x between → FilesBalance source mid new d e x y slots
      → FilesBalance source old new c e r y slots
  round_then old mid new c d e r x y between slots n stay p q = record {
    failed = q.failed || p.failed;
    keeps = λ lost. subst (FilesKeepBalance source old new c e r y lost) (or_both q.failed p.failed lost) (files_balance_then source old mid new c d e r x y lost (p.failed || lost) (q.failed || (p.failed || lost)) n (p.keeps lost) (q.keeps (p.failed || lost)));
    halted = λ h. go q.failed refl h;
  }
    where
      go : (b : Bool) → q.failed ≡ b → (b || p.failed) ≡ true → HasHalted slots
      go true e h = q.halted e
      go false e h = still_halted between slots stay (p.halted h)

  -- openers were polled, and then splits were served
  pub round_served : (old mid new : List (ScanFile O S)) (c d : Cache) (r x y : ScanReport) (between slots : List (Slot W R)) → length mid ≡ length old → ((k : ℕ) (f : ScanFile O S) → (get_or mid k f).source ≡ (get_or old k f).source)
      → ((k : ℕ) (f : ScanFile O S) → (get_or mid k f).source_id ≡ (get_or old k f).source_id) → x ≡ r → HaltsStay between slots → FilesBalance source mid new c d x y slots → FilesBalance source old new c d r y slots
  round_served old mid new c d r x y between slots n s m e stay b = round_then old mid new c c d r r y between slots n stay (round_same old mid c r between n s m) (subst (λ (z : ScanReport). FilesBalance source mid new c d z y slots) e b)

  -- from the start, where no split has been given up
  pub round_balance : (old new : List (ScanFile O S)) (c d : Cache) (after : ScanReport) (slots : List (Slot W R)) → All (λ f. (source f.source).live ≡ none_live) old → ((place : ℕ) → is_halted (slot_at slots place).stage ≡ false)
      → FilesBalance source old new c d (capped_report 0 0 0) after slots → Balance (books_of source old new) c d after false
  round_balance old new c d after slots idle none k = go k.failed refl
    where
      go : (b : Bool) → k.failed ≡ b → Balance (books_of source old new) c d after false
      go true e = let h = k.halted e in let bad : false ≡ true = sym (none h.place) ∙ h.halted in absurd cc
      go false e = subst (λ (b : Bool). Balance (books_of source old new) c d after (b || false)) e (k.keeps false old c refl (balance_starts source old c idle))

  -- from the start
  pub round_any : (old new : List (ScanFile O S)) (c d : Cache) (after : ScanReport) (slots : List (Slot W R)) → All (λ f. (source f.source).live ≡ none_live) old → (k : FilesBalance source old new c d (capped_report 0 0 0) after slots)
      → Balance (books_of source old new) c d after (k.failed || false)
  round_any old new c d after slots idle k = k.keeps false old c refl (balance_starts source old c idle)
