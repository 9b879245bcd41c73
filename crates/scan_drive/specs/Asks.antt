-- Splits that wait for other segments now, until these are asked for.
use Rattle.std.specs.Prelude.{◌≡◌, ◌≢◌, ◌<◌, ◌⊎◌, ℕ, true, false, List, length, Some, IfSome}
use Rattle.scan_values.specs.Selections.{is_among}
use Rattle.scan_segments.specs.declared.segment.SegmentKey.{SegmentKey}
use Rattle.scan_splits.specs.declared.inbox.Arrival.TheVariants as arrival
use Rattle.scan_drive.specs.Desks.{Waiters, waiters_at, waits, added, Moves}
use Rattle.scan_drive.specs.Drives.{desk_at}
use Rattle.scan_drive.specs.Slots.{slot_at, stage_waits, handed, wanted_in, MayTake}
use Rattle.scan_drive.specs.Wants.{Cache}
use Rattle.scan_drive.specs.declared.slot.Slot.{Slot}

module _ {W R : Type 0} where
  -- as `Linked`, but for the splits at these places, for which nobody waits yet
  pub record LinkedBut (asking : List ℕ) (file : ℕ) (d : Waiters) (slots : List (Slot W R)) : Type 0 where
    pub file_is : (id place : ℕ) → waits d id place ≡ true → (slot_at slots place).file ≡ file
    pub takes : (id place : ℕ) → waits d id place ≡ true → MayTake id (slot_at slots place)
    pub live : (id place : ℕ) → (slot_at slots place).file ≡ file → is_among asking place ≡ false
        → stage_waits (slot_at slots place).stage id ≡ true → waits d id place ≡ true
    pub none : (id place : ℕ) → is_among asking place ≡ true → waits d id place ≡ false

  -- so is each file
  abbrev pub EachLinkedBut : List ℕ → List Waiters → List (Slot W R) → Type 0
  EachLinkedBut asking desks slots = (k : ℕ) → k < length desks → LinkedBut asking k (desk_at desks k) slots

  -- one of the splits at these places, which is of this file, wants the id
  pub record IsWantedBy (asking : List ℕ) (slots : List (Slot W R)) (k id : ℕ) : Type 0 where
    pub place : ℕ
    pub listed : is_among asking place ≡ true
    pub file_is : (slot_at slots place).file ≡ k
    pub wanted : is_among (wanted_in (slot_at slots place).stage) id ≡ true

  -- bytes that the cache has are handed to the split, or its place waits for the id
  abbrev pub WantsOne : SegmentKey → ℕ → Cache → Slot W R → Slot W R → Waiters → Waiters → Type 0
  WantsOne key place c old new d e =
      ((bytes : List ℕ) × IfSome c.entries (λ m. m key ≡ Some bytes) × (new ≡ handed key.segment (arrival.Bytes bytes) old) × (e ≡ d))
      ⊎ ((new ≡ old) × Moves key.segment (Some (added place (waiters_at d key.segment))) d e)

  -- the place waits at the desk for what its split waits for, and others as before
  pub record WaitsThere (place : ℕ) (s : Slot W R) (d e : Waiters) : Type 0 where
    pub here : (id : ℕ) → waits e id place ≡ stage_waits s.stage id
    pub others : (id q : ℕ) → q ≢ place → waits e id q ≡ waits d id q
