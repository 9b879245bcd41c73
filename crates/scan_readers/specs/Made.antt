-- What of a reader's children is made.
use Rattle.std.specs.Prelude.{◌≡◌, ℕ, zero, suc, ◌+◌, List, [], ◌∷◌, Bool, true, false, Option, Some, None, refl}
use Rattle.std.specs.Coded.{Coded, code_by}
use base.Stored.{Gv, gnil, gnum, gcons}
use Rattle.scan_values.specs.Trees.{itself}
use Rattle.scan_layout.specs.Layout.{Layout, Nodes, no_nodes, child, kids_of}

-- the children from one on
pub data Made : Type 0 where
  -- there is none
  no_child : Made
  -- the first is not made; the others
  unmade : Made → Made
  -- the first is made, with so much of its own children; the others
  made : Made → Made → Made

-- the child of an index, where it is made
abbrev pub nth_made : Made → ℕ → Option Made
nth_made no_child k = None
nth_made (unmade m) zero = None
nth_made (unmade m) (suc k) = nth_made m k
nth_made (made c m) zero = Some c
nth_made (made c m) (suc k) = nth_made m k

-- a test of what is there
abbrev pub holds_in : (Made → Bool) → Option Made → Bool
holds_in test None = false
holds_in test (Some m) = test m

-- whether the child at a path of indices is made
abbrev pub is_made : Made → List ℕ → Bool
is_made m [] = true
is_made m (k ∷ path) = holds_in (λ c. is_made c path) (nth_made m k)

-- a child that is made or not, before others
abbrev pub first_made : Option Made → Made → Made
first_made None m = unmade m
first_made (Some c) m = made c m

-- the child of an index is made so far, or is not made
abbrev pub set_made : Made → ℕ → Option Made → Made
set_made no_child k o = no_child
set_made (unmade m) zero o = first_made o m
set_made (unmade m) (suc k) o = unmade (set_made m k o)
set_made (made c m) zero o = first_made o m
set_made (made c m) (suc k) o = made c (set_made m k o)

-- how many children there are
abbrev pub width : Made → ℕ
width no_child = 0
width (unmade m) = suc (width m)
width (made c m) = suc (width m)

-- no child of these is made
abbrev pub none_of : Nodes → Made
none_of no_nodes = no_child
none_of (child l ls) = unmade (none_of ls)

-- no child of a layout is made
abbrev pub none_made : Layout → Made
none_made l = none_of (kids_of l)

-- what is made of a child, of this layout
abbrev pub made_or_none : Option Made → Layout → Made
made_or_none None l = none_made l
made_or_none (Some m) l = m

-- how many are made
abbrev pub made_size : Made → ℕ
made_size no_child = 0
made_size (unmade m) = made_size m
made_size (made c m) = suc (made_size c) + made_size m

-- ---- how it is kept as a tree of numbers, and read back
abbrev pub made_tree : Made → Gv
made_tree no_child = gnil
made_tree (unmade m) = gcons gnil (made_tree m)
made_tree (made c m) = gcons (gcons gnil (made_tree c)) (made_tree m)

abbrev pub tree_made : Gv → Made
tree_made gnil = no_child
tree_made (gnum n) = no_child
tree_made (gcons gnil b) = unmade (tree_made b)
tree_made (gcons (gnum n) b) = unmade (tree_made b)
tree_made (gcons (gcons a c) b) = made (tree_made c) (tree_made b)

pub tree_made-made_tree : (m : Made) → tree_made (made_tree m) ≡ m
tree_made-made_tree no_child = refl
tree_made-made_tree (unmade m) = λ i. unmade (tree_made-made_tree m i)
tree_made-made_tree (made c m) = λ i. made (tree_made-made_tree c i) (tree_made-made_tree m i)

abbrev pub made_code : Coded Made
made_code = code_by Gv itself made_tree tree_made tree_made-made_tree
