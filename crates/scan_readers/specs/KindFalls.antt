-- Each child that is made is smaller than its reader.
use Rattle.std.specs.Prelude.{ℕ, suc, ◌≤◌, max, List, [], ◌∷◌, Option, Some, None}
use Rattle.std.proofs.Common.{arith}
use denote.Param.Weighed.{most}
use Rattle.scan_readers.specs.declared.kind.ReaderKind.{ReaderKind}
use Rattle.scan_readers.specs.declared.kind.ReaderKind.TheVariants.{Leaf, Nested}
use Rattle.scan_readers.specs.declared.nested.NestedReader.TheDeep.{deep-ReaderKind}
use Rattle.scan_readers.specs.KindView.{made_of, all_made}
use Rattle.scan_readers.specs.Made.{made_size}

pub kind_falls : (k : ReaderKind) → deep-ReaderKind k ≤ suc (made_size (made_of k))
kind_falls (Leaf r) = omega arith
kind_falls (Nested r) = omega arith

pub most_made : (w : Option ReaderKind → ℕ) → w None ≤ 0 → ((k : ReaderKind) → w (Some k) ≤ deep-ReaderKind k)
    → (os : List (Option ReaderKind)) → max (most w os) 0 ≤ made_size (all_made os)
most_made w none some [] = omega arith
most_made w none some (None ∷ os) = omega (arith, none, most_made w none some os)
most_made w none some (Some k ∷ os) = omega (arith, some k, kind_falls k, most_made w none some os)
