-- The files of a source of many.
use Rattle.std.specs.Prelude.{◌≡◌, ◌⊎◌, ℕ, Bool, true, false, not, List, [], ◌∷◌, Option, Some, None, refl}
use Rattle.std.specs.Coded.{Coded, code_by, coded×, coded⊎, coded_ℕ, coded_option}
use Rattle.std.specs.List.{slice_get}
use mathlib.Core.Logic.{inl, inr}
use Rattle.scan_layout.specs.Layout.{Layout, rows_of}
use Rattle.scan_layout.specs.LayoutCode.{layout_code}

-- a file that is opened, or what opens it; and its number of bytes, where that is known
pub data ChildData (O : Type 0) : Type 0 where
  opened : Layout → Option ℕ → ChildData O
  deferred : O → Option ℕ → ChildData O

-- its layout or its opener, and its number of bytes
abbrev pub ChildParts : Type 0 → Type 0
ChildParts O = (Layout ⊎ O) × Option ℕ

-- a file by its parts
abbrev pub child_parts : {O : Type 0} → ChildData O → ChildParts O
child_parts (opened l n) = (inl l, n)
child_parts (deferred o n) = (inr o, n)

-- and back
abbrev pub child_by : {O : Type 0} → Layout ⊎ O → Option ℕ → ChildData O
child_by (inl l) n = opened l n
child_by (inr o) n = deferred o n

pub child_again : {O : Type 0} (c : ChildData O) → child_by (child_parts c).0 (child_parts c).1 ≡ c
child_again (opened l n) = refl
child_again (deferred o n) = refl

-- files can be told from one another by numbers
abbrev pub child_code : {O : Type 0} → Coded O → Coded (ChildData O)
child_code {O} o = code_by (ChildParts O) (coded× (coded⊎ layout_code o) (coded_option coded_ℕ)) child_parts (λ p. child_by p.0 p.1) child_again

-- it is opened, or where the other is asked for it is not
abbrev pub is_opened : {O : Type 0} → Bool → ChildData O → Bool
is_opened want (opened l n) = want
is_opened want (deferred o n) = not want

-- there is a file, and it was handed in opened
abbrev pub is_open_file : {O : Type 0} → Option (ChildData O) → Bool
is_open_file None = false
is_open_file (Some c) = is_opened true c

-- so is the file at a place
abbrev pub is_open : {O : Type 0} → List (ChildData O) → ℕ → Bool
is_open cs k = is_open_file (slice_get cs k)

-- its number of bytes
abbrev pub child_bytes : {O : Type 0} → ChildData O → Option ℕ
child_bytes (opened l n) = n
child_bytes (deferred o n) = n

-- its number of bytes, where there is a file
abbrev pub bytes_in : {O : Type 0} → Option (ChildData O) → Option ℕ
bytes_in None = None
bytes_in (Some c) = child_bytes c

-- its number of rows, which an opened file tells
abbrev pub child_rows : {O : Type 0} → ChildData O → Option ℕ
child_rows (opened l n) = Some (rows_of l)
child_rows (deferred o n) = None

-- the first of sizes, where there is one, and the others
abbrev pub first_size : List (Option ℕ) → Option ℕ
first_size [] = None
first_size (s ∷ ss) = s

-- the sizes behind the first
abbrev pub later_sizes : List (Option ℕ) → List (Option ℕ)
later_sizes [] = []
later_sizes (s ∷ ss) = ss

-- files that are not opened, with their sizes, where these are told
abbrev pub deferred_children : {O : Type 0} → List O → List (Option ℕ) → List (ChildData O)
deferred_children [] ss = []
deferred_children (o ∷ os) ss = deferred o (first_size ss) ∷ deferred_children os (later_sizes ss)
