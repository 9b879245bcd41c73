-- The order in which splits of files are active.
use Rattle.std.specs.Prelude.{◌≤◌, ℕ, List, [], ◌∷◌}
use Rattle.std.specs.Ordering.{nat_cmp, ordering_then}
use Rattle.std.specs.declared.cmp.Ordering.{Ordering}
use Rattle.scan_drive.specs.Slots.{slot_at}
use Rattle.scan_drive.specs.declared.active.Active.{Active}
use Rattle.scan_drive.specs.declared.slot.Slot.{Slot}

-- desks by their files, and then by their places
abbrev pub by_file : ℕ × ℕ → ℕ × ℕ → Ordering
by_file x y = ordering_then (nat_cmp x.0 y.0) (nat_cmp x.1 y.1)

module _ {W R : Type 0} where
  -- the files of the splits at these places do not fall, and lie between two
  abbrev pub Rises : ℕ → ℕ → List ℕ → List (Slot W R) → Type 0
  Rises first last [] slots = first ≤ last
  Rises first last (p ∷ ps) slots = (first ≤ (slot_at slots p).file) × Rises (slot_at slots p).file last ps slots

  -- active splits stay in the order of their files, and between two of them
  abbrev pub KeepsOrder : Active W R → Active W R → Type 0
  KeepsOrder old new = (first last : ℕ) → Rises first last old.turns.items old.slots.items → Rises first last new.turns.items new.slots.items
