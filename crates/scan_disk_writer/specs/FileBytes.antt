-- The bytes of a file.
use Rattle.std.specs.Prelude.{ℕ, suc, ◌+◌, ◌^◌, ◌<◌, ◌++◌, List, [], ◌∷◌, length, Option, None, Some, Result, Ok, Err}
use Rattle.std.specs.Int.{w64, to_le_bytes}
use Rattle.sha2.specs.Sha256.{sha256}
use Rattle.scan_layout.specs.Layout.{Layout, Nodes, node, no_nodes, child}
use Rattle.scan_layout.specs.declared.node.LayoutKind.TheVariants.{Leaf, Struct, List as Listed}
use Rattle.scan_disk.specs.Contents.{magic}
use Rattle.scan_disk.specs.declared.fault.DiskFault.{DiskFault}
use Rattle.scan_disk.specs.declared.fault.DiskFault.TheVariants as fault
use Rattle.scan_disk.specs.declared.place.Place.{Place}

-- the segments, one after the other
abbrev pub joined : List (List ℕ) → List ℕ
joined [] = []
joined (s ∷ segments) = s ++ joined segments

-- a segment that begins here
abbrev pub placed : ℕ → List ℕ → Place
placed at s = record { offset = at; length = length s; digest = sha256 s }

-- where each stands, from a place on
abbrev pub places_from : ℕ → List (List ℕ) → List Place
places_from at [] = []
places_from at (s ∷ segments) = placed at s ∷ places_from (at + length s) segments

-- the footer and its digest
abbrev pub sealed : List ℕ → List ℕ
sealed footer = footer ++ sha256 footer

-- both, the footer's length and the last magic
abbrev pub end_bytes : List ℕ → List ℕ
end_bytes footer = sealed footer ++ (to_le_bytes w64 (length footer) ++ magic)

-- a file of this body and this footer
abbrev pub framed : List ℕ → List ℕ → List ℕ
framed body footer = magic ++ (body ++ end_bytes footer)

-- by their numbers
abbrev pub numbered : {A : Type 0} → ℕ → List A → List (ℕ × A)
numbered id [] = []
numbered id (x ∷ xs) = (id, x) ∷ numbered (suc id) xs

-- what a source of the file answers for a number
abbrev pub or_none : Option (List ℕ) → Result (List ℕ) DiskFault
or_none (Some bytes) = Ok bytes
or_none None = Err fault.NoSegment

-- each number is one of a segment
abbrev pub SegmentIdsFit : List (ℕ × ℕ) → Type 0
SegmentIdsFit [] = Unit {0}
SegmentIdsFit (g ∷ gs) = (g.0 < 2 ^ 32) × SegmentIdsFit gs

abbrev mutual
  pub IdsFit : Layout → Type 0
  IdsFit (node t rows (Leaf segments spelling) kids) = SegmentIdsFit segments
  IdsFit (node t rows Struct kids) = AllIdsFit kids
  IdsFit (node t rows (Listed p) kids) = AllIdsFit kids

  pub AllIdsFit : Nodes → Type 0
  AllIdsFit no_nodes = Unit {0}
  AllIdsFit (child l ls) = IdsFit l × AllIdsFit ls
