-- Work that goes to a thread through a box, and comes back done.
use Rattle.std.specs.Prelude.{◌≡◌, ◌⊎◌, ℕ, Bool, true, false, List, [], ◌∷◌, Option, None, Some}
use mathlib.Core.Option.{some}
use lib.ListN.{get_elem?}
use Rattle.scan_pool.specs.declared.mail.Knows.{Knows}
use Rattle.scan_pool.specs.declared.mail.Mail.{Mail}

module _ {T : Type 0} where
  -- what a pass knows
  abbrev pub knows : Bool → Bool → Option T → Option (Mail T) → Knows T
  knows sends serves sent has = record { sends = sends; serves = serves; sent = sent; has = has }

  -- one pass at most sends, and one serves: it knows what was sent, and what was taken out
  abbrev pub Fits : ℕ → ℕ → Option T → Option (Mail T) → ℕ → Knows T → Type 0
  Fits sender server sent has port v =
      (v.sends ≡ true → (port ≡ sender) × (v.sent ≡ sent)) × (v.serves ≡ true → (port ≡ server) × (v.has ≡ has))

module _ {T : Type 0} (done : T → T → Type 0) where
  -- it is this work, or what that comes to
  abbrev pub Meets : T → Mail T → Type 0
  Meets b m = (m.is_done ≡ false → m.work ≡ b) × (m.is_done ≡ true → done b m.work)

  -- nothing is sent, or it is in the box or out of it
  abbrev pub IsThere : List (Mail T) → Option T → Option (Mail T) → Type 0
  IsThere items sent has =
      ((items ≡ []) × (sent ≡ None) × (has ≡ None))
      ⊎ ((b : T) × (m : Mail T) × (sent ≡ Some b) × Meets b m
      × (((items ≡ m ∷ []) × (has ≡ None)) ⊎ ((items ≡ []) × (has ≡ Some m))))

  -- what was sent is in the box or with the thread, as it was or done
  abbrev pub Exchanged : List (Mail T) → List (Knows T) → Type 0
  Exchanged items views = (sender : ℕ) × (server : ℕ) × (sent : Option T) × (has : Option (Mail T)) × IsThere items sent has
      × ((port : ℕ) (v : Knows T) → get_elem? views port ≡ some v → Fits sender server sent has port v)

  -- mail answers what was sent
  abbrev pub Answers : Option T → Mail T → Type 0
  Answers sent m = (b : T) × (sent ≡ Some b) × Meets b m

  -- a thread has taken mail out of which this may be put in
  abbrev pub IsKept : Mail T → Knows T → Type 0
  IsKept m v = (old : Mail T) × (v ≡ knows false true None (Some old)) × ((b : T) → Meets b old → Meets b m)
