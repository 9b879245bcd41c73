-- A phase of polls, in which rows may be claimed of a budget, and a delivery after it.
use Rattle.std.proofs.Common.{◌≡◌, ℕ, ◌+◌, Bool, true, false, List, length, Option, Some, None, inl, refl, sym, ◌∙◌, subst}
use Rattle.std.specs.Prelude.{MatchOption, IfSome}
use Rattle.scan_segments.specs.Source.{Store}
use Rattle.scan_splits.specs.Arrivals.{Arrivals}
use Rattle.scan_drive.specs.Actives.{AreSeats, Keeps, EachOk}
use Rattle.scan_drive.specs.Budgets.{BudgetData, IsOpen, Grants, IsBudget, IsPhase, GrantsIn, UsesUpIn}
use Rattle.scan_drive.specs.Chunks.{given, Counts, IsCut, IsDeliverFault}
use Rattle.scan_drive.specs.Drives.{FilesWithin, NoneOf}
use Rattle.scan_drive.specs.Files.{Told, count}
use Rattle.scan_drive.specs.Lost.{EachFollows}
use Rattle.scan_drive.specs.Slots.{slot_at, IsTrimmed, read_rows}
use Rattle.scan_drive.specs.Splits.{SplitState, Event}
use Rattle.scan_drive.specs.declared.active.Active.{Active}
use Rattle.scan_drive.specs.declared.delivery.Chunk.{Chunk}
use Rattle.scan_drive.specs.declared.delivery.DriveFault.{DriveFault}
use Rattle.scan_drive.specs.declared.slot.Slot.{Slot}
use Rattle.scan_drive.proofs.Allowing.{used_up, grants_on}
use Rattle.scan_drive.proofs.Following.{each_then}
use Rattle.scan_drive.proofs.Nearing.{all_polled}
use Rattle.scan_drive.proofs.Polling.{polled_follows}
use Rattle.scan_drive.proofs.Standing.{keeps_each, seated_advances, cut_mid, fault_mid, files_mid}
use Rattle.scan_drive.proofs.Trimming.{cut_trimmed, trimmed_ok, trimmed_seats, trimmed_within, trimmed_follows}

module _ {W I R : Type 0} (split : W → SplitState I) (comes : W → Arrivals → Store → Event → Type 0) (items : R → List I) where
  -- splits were polled, and of those that are read the first rows may be kept
  pub record Reached (old new : List (Slot W R)) : Type 0 where
    pub mid : List (Slot W R)
    pub asking : List ℕ
    pub phase : IsPhase split comes items asking old mid
    pub len : length new ≡ length mid
    pub trimmed : (place : ℕ) → IsTrimmed items (slot_at mid place) (slot_at new place)

  -- what a phase answers
  abbrev pub Answers : {V : Type 0} → (V → List ℕ) → Option BudgetData → Option V → List (Slot W R) → List (Slot W R) → Type 0
  Answers asks b o old new = MatchOption o (UsesUpIn split comes items b old new) (λ a. IsPhase split comes items (asks a) old new)

  reached_all : (asking : List ℕ) (old new : List (Slot W R)) → IsPhase split comes items asking old new → Reached old new
  reached_all asking old new h = record { mid = new; asking = asking; phase = h; len = refl; trimmed = λ place. inl refl }

  reached_used : (b : Option BudgetData) (old new : List (Slot W R)) → UsesUpIn split comes items b old new → Reached old new
  reached_used None old new h = absurd h
  reached_used (Some b) old new h = record { mid = h.mid; asking = h.asking; phase = h.phase; len = h.len; trimmed = h.trimmed }

  pub reached : {V : Type 0} (asks : V → List ℕ) (b : Option BudgetData) (o : Option V) (old new : List (Slot W R)) → Answers asks b o old new → Reached old new
  reached asks b None old new h = reached_used b old new h
  reached asks b (Some a) old new h = reached_all (asks a) old new h

  pub reached_seats : (turns free : List ℕ) (old new : List (Slot W R)) → Reached old new → AreSeats turns free old → AreSeats turns free new
  reached_seats turns free old new r s = trimmed_seats items r.mid new r.trimmed turns free r.len (seated_advances split turns free old r.mid (all_polled split comes items r.asking old r.mid r.phase.polled) s)

  pub reached_follows : (old new : List (Slot W R)) → Reached old new → EachFollows NoneOf NoneOf old new
  reached_follows old new r = each_then NoneOf NoneOf old r.mid new (polled_follows split comes items r.asking old r.mid r.phase.polled) (trimmed_follows items r.mid new r.trimmed)

  pub reached_within : (old new : List (Slot W R)) (n : ℕ) → Reached old new → FilesWithin n old → FilesWithin n new
  reached_within old new n r w = trimmed_within items r.mid new r.trimmed n (files_mid split comes items r.asking old r.mid n r.phase.polled w)

  keeps_turns : (tale : List (Told I)) (turns : List ℕ) (old new : List (Slot W R)) → (r : Reached old new) → Keeps split comes items tale turns old r.mid
  keeps_turns tale turns old new r = keeps_each split comes items tale turns old r.mid (λ q. (r.phase.polled.at q).file_is) r.phase.keeps

  pub reached_ok : (tale : List (Told I)) (turns : List ℕ) (old new : List (Slot W R)) → Reached old new → EachOk split comes items tale turns old → EachOk split comes items tale turns new
  reached_ok tale turns old new r ok = trimmed_ok split comes items tale turns r.mid new r.trimmed ((keeps_turns tale turns old new r).ok ok)

  -- ---- with a budget
  free_used : (ordered : Bool) (left : Option ℕ) (b : Option BudgetData) (old new : List (Slot W R)) → IsBudget ordered left b → UsesUpIn split comes items b old new → ordered ≡ false
  free_used ordered left None old new g h = absurd h
  free_used ordered left (Some b) old new g h = g.free

  -- a limit that is met
  pub cut_reached : {V : Type 0} (asks : V → List ℕ) (ordered : Bool) (left : Option ℕ) (b : Option BudgetData) (o : Option V) (old new : Active W R) (chunks chunks' : List (Chunk R)) → new.turns ≡ old.turns
      → IsBudget ordered left b → Answers asks b o old.slots.items new.slots.items → IsCut split comes items ordered new chunks chunks' left → IsCut split comes items ordered old chunks chunks' left
  cut_reached asks ordered left b (Some a) old new chunks chunks' turns g h c =
      cut_mid split comes items ordered old new chunks chunks' left (λ tale. keeps_each split comes items tale old.turns.items old.slots.items new.slots.items (λ q. (h.polled.at q).file_is) h.keeps) turns c
  cut_reached asks ordered left b None old new chunks chunks' turns g h c =
      let r = reached_used b old.slots.items new.slots.items h in
      let un = free_used ordered left b old.slots.items new.slots.items g h in
      subst (λ x. IsCut split comes items x old chunks chunks' left) (sym un)
      (cut_trimmed split comes items old new r.mid chunks chunks' left turns (λ tale. keeps_turns tale old.turns.items old.slots.items new.slots.items r) r.trimmed
      (subst (λ x. IsCut split comes items x new chunks chunks' left) un c))

  -- a fault in order
  pub fault_reached : {V : Type 0} (asks : V → List ℕ) (ordered : Bool) (left left' : Option ℕ) (b : Option BudgetData) (o : Option V) (old mid new : Active W R) (chunks chunks' : List (Chunk R)) (e : DriveFault) → mid.turns ≡ old.turns
      → IsBudget ordered left b → Answers asks b o old.slots.items mid.slots.items → ordered ≡ true → IsDeliverFault split comes items mid new chunks chunks' left left' e → IsDeliverFault split comes items old new chunks chunks' left left' e
  fault_reached asks ordered left left' b (Some a) old mid new chunks chunks' e turns g h is f =
      fault_mid split comes items old mid new chunks chunks' left left' (λ tale. keeps_each split comes items tale old.turns.items old.slots.items mid.slots.items (λ q. (h.polled.at q).file_is) h.keeps) turns (λ q. (h.polled.at q).file_is) e f
  fault_reached asks ordered left left' b None old mid new chunks chunks' e turns g h is f =
      let bad : true ≡ false = sym is ∙ free_used ordered left b old.slots.items mid.slots.items g h in absurd cc

  -- a budget that is used up meets the limit
  pub none_used : (ordered : Bool) (left left' : Option ℕ) (b : Option BudgetData) (old new : List (Slot W R)) (chunks chunks' : List (Chunk R)) → IsBudget ordered left b → UsesUpIn split comes items b old new
      → ((x : BudgetData) → b ≡ Some x → ordered ≡ false → count (given items chunks') ≡ count (given items chunks) + read_rows items new) → Counts items chunks chunks' left left' → ⊥
  none_used ordered left left' None old new chunks chunks' g u n c = absurd u
  none_used ordered left left' (Some b) old new chunks chunks' g u n c =
      used_up split comes items b left left' chunks chunks' old new (subst (λ x. Grants x left b) g.free g) u (n b refl g.free) c

  -- one that is not grants what is left
  pub budget_on : (ordered : Bool) (left left' : Option ℕ) (b d : Option BudgetData) (slots : List (Slot W R)) (chunks chunks' : List (Chunk R)) → IsBudget ordered left b → GrantsIn items b d slots
      → ((x : BudgetData) → b ≡ Some x → ordered ≡ false → count (given items chunks') ≡ count (given items chunks) + read_rows items slots) → Counts items chunks chunks' left left' → IsBudget ordered left' d
  budget_on ordered left left' None d slots chunks chunks' g u n c = subst (IsBudget ordered left') (sym u) tt
  budget_on ordered left left' (Some b) None slots chunks chunks' g u n c = absurd u
  budget_on ordered left left' (Some b) (Some d) slots chunks chunks' g u n c =
      subst (λ x. Grants x left' d) (sym g.free) (grants_on split comes items b d left left' chunks chunks' slots (subst (λ x. Grants x left b) g.free g) u (n b refl g.free) c)

pub open_in : (ordered : Bool) (left : Option ℕ) (b : Option BudgetData) → IsBudget ordered left b → IfSome b IsOpen
open_in ordered left None g = tt
open_in ordered left (Some b) g = g.is_open
