-- Files in another order, and the answer of a scan in the order of its files or in none.
use Rattle.std.specs.Prelude.{◌≡◌, ◌≤◌, ◌++◌, ℕ, Bool, true, cond, eqb, List, [], ◌∷◌, Option, length, IsPermutation}
use Rattle.std.specs.List.{flat_map, swap}
use Rattle.scan_values.specs.Selections.{is_among}
use Rattle.scan_splits.specs.Wanted.{no_repeats}
use Rattle.scan_drive.specs.Chunks.{given, Fits}
use Rattle.scan_drive.specs.Files.{Group, Told, told_at, part_groups, answer, count}
use Rattle.scan_drive.specs.Grants.{AreGiven}
use Rattle.scan_drive.specs.declared.delivery.Chunk.{Chunk}

-- a list after two places were exchanged, time and again
abbrev pub exchanged : {X : Type 0} → List (ℕ × ℕ) → List X → List X
exchanged [] xs = xs
exchanged (s ∷ ss) xs = exchanged ss (swap xs s.0 s.1)

-- the list before: the exchanges are undone, the last one first
abbrev pub restored : {X : Type 0} → List (ℕ × ℕ) → List X → List X
restored [] xs = xs
restored (s ∷ ss) xs = swap (restored ss xs) s.0 s.1

-- where that stood which stands here after two places were exchanged
abbrev pub exchange : ℕ → ℕ → ℕ → ℕ
exchange i j k = cond (eqb k i) j (cond (eqb k j) i k)

-- the same after exchanges one after the other
abbrev pub placed_by : List (ℕ × ℕ) → ℕ → ℕ
placed_by [] k = k
placed_by (s ∷ ss) k = exchange s.0 s.1 (placed_by ss k)

-- a group of a place, by its file
abbrev pub relabelled : {I : Type 0} → (ℕ → ℕ) → Group I → Group I
relabelled f g = (f g.0, g.1)

-- a chunk of a place, by its file
abbrev pub renamed : {R : Type 0} → (ℕ → ℕ) → Chunk R → Chunk R
renamed f c = record { file = f c.file; rows = c.rows }

module _ {I : Type 0} where
  -- the groups of the files at these places, one file after the other
  abbrev pub answer_in : List ℕ → List (Told I) → List (Group I)
  answer_in order tale = flat_map (λ k. part_groups k (told_at tale k)) order

  -- what is given of the answer, in its order or in none
  abbrev pub IsAnswered : Bool → Option ℕ → List (Told I) → List (Group I) → Type 0
  IsAnswered ordered limit tale gs = AreGiven ordered limit (answer tale) gs

module _ {R I : Type 0} (items : R → List I) where
  -- all rows of so many of the files up to a place were given, perhaps others after them, and there was room for more
  pub record GivesSome (limit : Option ℕ) (tale : List (Told I)) (k n : ℕ) : Type 0 where
    pub places : List ℕ
    pub once : no_repeats places ≡ true
    pub within : (p : ℕ) → is_among places p ≡ true → p ≤ k
    pub as_many : length places ≡ n
    pub chunks : List (Chunk R)
    pub more : List (Group I)
    pub groups : IsPermutation (given items chunks) (answer_in places tale ++ more)
    pub room : Fits (count (given items chunks)) limit
