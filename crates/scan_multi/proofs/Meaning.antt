-- What the part of a file, as a drive has it, says in the words of a scan.
use Rattle.std.proofs.Common.{◌≡◌, ℕ, List, [], ◌∷◌, true}
use Rattle.std.specs.Prelude.{Contains}
use Rattle.scan_values.specs.DataType.{DataType}
use Rattle.scan_expr.specs.declared.request.ScanRequest.{ScanRequest}
use Rattle.scan_segments.specs.Source.{Store}
use Rattle.scan_opener.specs.Opener.{Given}
use Rattle.scan_file.specs.FileAsks.{FileAsk}
use Rattle.scan_file.specs.Openings.{part_of}
use Rattle.scan_multi.specs.Asked.{Row}
use Rattle.scan_multi.specs.Damaged.{IsDamaged}
use Rattle.scan_multi.specs.Named.{named}
use Rattle.scan_multi.specs.Overflow.{OverflowsIn}

-- each row is of this dtype
abbrev pub AreOf : DataType → List Row → Type 0
AreOf t [] = Unit {0}
AreOf t (x ∷ xs) = (x.1.1.0 ≡ t) × AreOf t xs

pub record Means (d : DataType) (q : ScanRequest) (a : FileAsk) : Type 0 where
  -- what is named may be asked
  pub named_of : (g : Given) (store : Store) (id : ℕ) → (part_of a g).named store id ≡ true → Contains (named d q g store) id
  -- what is bad is damaged
  pub bad : (g : Given) (store : Store) (id : ℕ) → (part_of a g).bad store id ≡ true → IsDamaged d q (record { given = g; store = store }) id
  -- an overflow is one
  pub overflow : (g : Given) (store : Store) → (part_of a g).overflow store ≡ true → OverflowsIn d q g store
