-- What is given of groups: the first of their rows in order, or in no order the first rows of some of them.
use Rattle.std.specs.Prelude.{◌≡◌, ◌≤◌, ◌++◌, ℕ, Bool, true, false, List, [], ◌∷◌, Option, None, Some, take, IsPermutation}
use Rattle.scan_drive.specs.Files.{Group, count, limited}

module _ {I : Type 0} where
  -- the same groups, in the same order or in any
  abbrev pub AreSame : Bool → List (Group I) → List (Group I) → Type 0
  AreSame true gs hs = gs ≡ hs
  AreSame false gs hs = IsPermutation gs hs

  -- the first rows of a group
  pub record IsFront (g w : Group I) : Type 0 where
    pub file : g.0 ≡ w.0
    pub most : ℕ
    pub rows : g.1 ≡ take most w.1

  -- the first rows of each of these groups
  abbrev pub AreFronts : List (Group I) → List (Group I) → Type 0
  AreFronts [] [] = Unit {0}
  AreFronts [] (w ∷ ws) = ⊥
  AreFronts (g ∷ gs) [] = ⊥
  AreFronts (g ∷ gs) (w ∷ ws) = IsFront g w × AreFronts gs ws

  -- The first rows of some of the groups: as many rows as the limit allows, and all groups where there is none.
  pub record AreSome (limit : Option ℕ) (all gs : List (Group I)) : Type 0 where
    pub whole : List (Group I)
    pub others : List (Group I)
    pub among : IsPermutation (whole ++ others) all
    pub fronts : AreFronts gs whole
    pub rows : count gs ≡ count (limited limit all)
    pub free : limit ≡ None → IsPermutation gs all

  -- what is given of groups up to a limit, in their order or in none
  abbrev pub AreGiven : Bool → Option ℕ → List (Group I) → List (Group I) → Type 0
  AreGiven true limit all gs = gs ≡ limited limit all
  AreGiven false limit all gs = AreSome limit all gs

-- a limit allows so many
abbrev pub Allows : Option ℕ → ℕ → Type 0
Allows None n = Unit {0}
Allows (Some most) n = n ≤ most

module _ {I : Type 0} where
  -- what is given under a limit that is no higher
  pub record IsGivenFront (ordered : Bool) (limit : Option ℕ) (all gs : List (Group I)) : Type 0 where
    pub most : ℕ
    pub within : Allows limit most
    pub given : AreGiven ordered (Some most) all gs
