-- The layouts that readers are of, and what of their children is made.
use Rattle.std.specs.Prelude.{◌≡◌, false, List, [], ◌∷◌, Option, Some, None}
use Rattle.scan_layout.specs.Layout.{Layout, Nodes, no_nodes, child, kids_of}
use Rattle.scan_readers.specs.LeafPlans.{leaf_layout, is_leaf}
use Rattle.scan_readers.specs.Made.{Made, no_child, first_made}
use Rattle.scan_readers.specs.StructData.{IsReadable}
use Rattle.scan_readers.specs.declared.leaf.LeafReader.{LeafReader}
use Rattle.scan_readers.specs.declared.kind.ReaderKind.{ReaderKind}
use Rattle.scan_readers.specs.declared.kind.ReaderKind.TheVariants.{Leaf, Nested}

abbrev pub leaf_of : LeafReader → Layout
leaf_of r = leaf_layout r.dtype.value r.spelling r.runs.value

abbrev pub layout_of : ReaderKind → Layout
layout_of (Leaf r) = leaf_of r
layout_of (Nested r) = r.layout

-- what of its children is made
abbrev pub made_of : ReaderKind → Made
made_of (Leaf r) = no_child
made_of (Nested r) = r.made

abbrev pub made_in : Option ReaderKind → Option Made
made_in None = None
made_in (Some k) = Some (made_of k)

-- of children one by one
abbrev pub all_made : List (Option ReaderKind) → Made
all_made [] = no_child
all_made (o ∷ os) = first_made (made_in o) (all_made os)

-- a child that is made is a reader of its layout
abbrev pub IsOf : Layout → Option ReaderKind → Type 0
IsOf l None = Unit {0}
IsOf l (Some k) = layout_of k ≡ l

abbrev pub AreOf : Nodes → List (Option ReaderKind) → Type 0
AreOf no_nodes [] = Unit {0}
AreOf no_nodes (o ∷ os) = ⊥
AreOf (child l ls) [] = ⊥
AreOf (child l ls) (o ∷ os) = IsOf l o × AreOf ls os

-- a struct or a list of good form, and readers of its children where they are made
pub record IsNestedReader (l : Layout) (os : List (Option ReaderKind)) : Type 0 where
  pub readable : IsReadable l
  pub nested : is_leaf l ≡ false
  pub kids : AreOf (kids_of l) os
