-- What was asked of a source, where it failed, and what came to the splits meanwhile.
use Rattle.std.proofs.Common.{◌≡◌, ℕ, ◌+◌, ◌-◌, ◌≤◌, List, [], ◌∷◌, ◌++◌, Bool, true, false, eqb, Some, inl, inr, refl, sym, ap, ◌∙◌, arith, append_assoc}
use Rattle.std.specs.Prelude.{◌⊎◌, Contains}
use Rattle.std.proofs.lemmas.Bool.Decides.{nat_tests}
use Rattle.std.proofs.lemmas.List.Elements.{Contains-append_left, Contains-append_right}
use Rattle.scan_values.specs.Selections.{is_among}
use Rattle.scan_segments.specs.Faults.{Rose}
use Rattle.scan_segments.specs.Source.{SourceState}
use Rattle.scan_splits.specs.Wanted.{no_repeats}
use Rattle.scan_splits.specs.declared.inbox.Arrival.{Arrival}
use Rattle.scan_drive.specs.Desks.{Waiters, waiters_at, Agree}
use Rattle.scan_drive.specs.Drivings.{SourceFailed}
use Rattle.scan_drive.specs.Grounds.{WasOpen, FailedAt, SourceFollows}
use Rattle.scan_drive.specs.Links.{Linked}
use Rattle.scan_drive.specs.Slots.{at_each, handed, given_up}
use Rattle.scan_drive.specs.Sources.{SourceMoves}
use Rattle.scan_drive.specs.Traffic.{WasAsked}
use Rattle.scan_drive.specs.declared.slot.Halt.TheVariants as halt
use Rattle.scan_drive.specs.declared.slot.Slot.{Slot}
use Rattle.scan_drive.proofs.Following.{follows_handed, follows_lost, each_self, each_weaker, each_then, each_at_each}
use Rattle.scan_drive.proofs.Linking.{take_all}

pub among_contains : (ids : List ℕ) (id : ℕ) → is_among ids id ≡ true → Contains ids id
among_contains [] id h = absurd cc
among_contains (x ∷ ids) id h = go (λ m. among_contains ids id m) (eqb x id) refl
  where
    go : (is_among ids id ≡ true → Contains ids id) → (b : Bool) → eqb x id ≡ b → Contains (x ∷ ids) id
    go later true e = let same : x ≡ id = grind (arith, nat_tests) in (0, omega arith, same)
    go later false e = Contains-append_right (x ∷ []) ids id (later (rw e at h))

-- ---- what was asked
pub asked_ids : (id : ℕ) (s t : SourceState) (ids : List ℕ) → t.asked ≡ s.asked ++ ids → is_among ids id ≡ true → WasAsked id s t
asked_ids id s t ids e m = record { ids = ids; asked = e; among = among_contains ids id m }

pub asked_more : (May : ℕ → Type 0) (id : ℕ) (s t u : SourceState) → SourceMoves May t u → WasAsked id s t → WasAsked id s u
asked_more May id s t u m w = record {
  ids = w.ids ++ m.ids;
  asked = m.asked ∙ ap (λ xs. xs ++ m.ids) w.asked ∙ append_assoc s.asked w.ids m.ids;
  among = Contains-append_left w.ids m.ids id w.among;
}

pub asked_before : (May : ℕ → Type 0) (id : ℕ) (s t u : SourceState) → SourceMoves May s t → WasAsked id t u → WasAsked id s u
asked_before May id s t u m w = record {
  ids = m.ids ++ w.ids;
  asked = w.asked ∙ ap (λ xs. xs ++ w.ids) m.asked ∙ append_assoc s.asked m.ids w.ids;
  among = Contains-append_right m.ids w.ids id w.among;
}

pub open_more : (May : ℕ → Type 0) (id : ℕ) (s t u : SourceState) → SourceMoves May t u → WasOpen id s t → WasOpen id s u
open_more May id s t u m (inl on) = inl on
open_more May id s t u m (inr w) = inr (asked_more May id s t u m w)

pub open_before : (May Can : ℕ → Type 0) (id : ℕ) (s t u : SourceState) → SourceMoves May s t → SourceMoves Can t u → WasOpen id t u → WasOpen id s u
open_before May Can id s t u m n (inl on) = was (m.live id on)
  where
    was : (s.live id ≡ true) ⊎ (is_among m.ids id ≡ true) → WasOpen id s u
    was (inl k) = inl k
    was (inr k) = inr (asked_more Can id s t u n (asked_ids id s t m.ids m.asked k))
open_before May Can id s t u m n (inr w) = inr (asked_before May id s t u m w)

-- ---- where it failed
pub rose_more : (a b c : ℕ) → Rose a b → b ≤ c → Rose a c
rose_more a b c r l = omega (arith, r, l)

pub rose_before : (a b c : ℕ) → a ≤ b → Rose b c → Rose a c
rose_before a b c l r = omega (arith, r, l)

pub failed_more : (May : ℕ → Type 0) (s t u : SourceState) → SourceMoves May t u → SourceFailed s t → SourceFailed s u
failed_more May s t u m f = (rose_more s.faults t.faults u.faults f.0 m.faults, f.1)

pub failed_before : (May : ℕ → Type 0) (s t u : SourceState) → SourceMoves May s t → SourceFailed t u → SourceFailed s u
failed_before May s t u m f = (rose_before s.faults t.faults u.faults m.faults f.0, sym m.can_fail ∙ f.1)

pub at_more : (May : ℕ → Type 0) (id : ℕ) (s t u : SourceState) → SourceMoves May t u → FailedAt id s t → FailedAt id s u
at_more May id s t u m f = record { failed = failed_more May s t u m f.failed; was = open_more May id s t u m f.was }

pub at_before : (May Can : ℕ → Type 0) (id : ℕ) (s t u : SourceState) → SourceMoves May s t → SourceMoves Can t u → FailedAt id t u → FailedAt id s u
at_before May Can id s t u m n f = record { failed = failed_before May s t u m f.failed; was = open_before May Can id s t u m n f.was }

-- ---- what came to the splits
open_at : (id : ℕ) (places : List ℕ) (s t : SourceState) (d : Waiters) → Agree s.live d → waiters_at d id ≡ Some places → WasOpen id s t
open_at id places s t d a e = inl (a id ∙ ap Rattle.std.proofs.Common.is_some e)

module _ {W R : Type 0} where
  pub source_self : (s t : SourceState) (slots : List (Slot W R)) → SourceFollows s t slots slots
  source_self s t slots = each_self (λ k id. WasOpen id s t) (λ k id. FailedAt id s t) slots

  pub source_then : (May Can : ℕ → Type 0) (s t u : SourceState) (a b c : List (Slot W R)) → SourceMoves May s t → SourceMoves Can t u → SourceFollows s t a b → SourceFollows t u b c → SourceFollows s u a c
  source_then May Can s t u a b c m n p q =
      each_then (λ k id. WasOpen id s u) (λ k id. FailedAt id s u) a b c
      (each_weaker (λ k id. WasOpen id s t) (λ k id. FailedAt id s t) (λ k id. WasOpen id s u) (λ k id. FailedAt id s u) a b (λ k id w. open_more Can id s t u n w) (λ k id w. at_more Can id s t u n w) p)
      (each_weaker (λ k id. WasOpen id t u) (λ k id. FailedAt id t u) (λ k id. WasOpen id s u) (λ k id. FailedAt id s u) b c (λ k id w. open_before May Can id s t u m n w) (λ k id w. at_before May Can id s t u m n w) q)

  pub source_came : (file id : ℕ) (a : Arrival) (places : List ℕ) (s t : SourceState) (d : Waiters) (slots : List (Slot W R)) → Linked file d slots → Agree s.live d → waiters_at d id ≡ Some places → no_repeats places ≡ true → SourceFollows s t slots (at_each (handed id a) places slots)
  source_came file id a places s t d slots l agree e once =
      each_at_each (λ k id. WasOpen id s t) (λ k id. FailedAt id s t) id (handed id a) places slots (take_all file id places d slots l e) once
      (λ x. follows_handed (λ q. WasOpen q s t) (λ q. FailedAt q s t) id a x (open_at id places s t d agree e))

  pub source_lost : (file id : ℕ) (places : List ℕ) (s t : SourceState) (d : Waiters) (slots : List (Slot W R)) → Linked file d slots → Agree s.live d → waiters_at d id ≡ Some places
      → SourceFailed s t → no_repeats places ≡ true → SourceFollows s t slots (at_each (given_up (halt.Source id)) places slots)
  source_lost file id places s t d slots l agree e f once =
      each_at_each (λ k id. WasOpen id s t) (λ k id. FailedAt id s t) id (given_up (halt.Source id)) places slots (take_all file id places d slots l e) once
      (λ x. follows_lost (λ q. WasOpen q s t) (λ q. FailedAt q s t) id x (record { failed = f; was = open_at id places s t d agree e }))
