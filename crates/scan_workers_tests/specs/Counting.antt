-- A sink that counts rows and lets its chunks go.
use Rattle.std.proofs.Common.{arith}
use Rattle.std.specs.Prelude.{◌≡◌, ◌+◌, ◌++◌, ℕ, List, [], ◌∷◌, length}
use Rattle.scan_segments.specs.Faults.{RaisedBy}
use Rattle.scan_drive.specs.Taking.{IsTaking}
use Rattle.scan_multi.specs.Output.{ChunkData}

-- how many rows chunks have together
abbrev pub rows_of : List ChunkData → ℕ
rows_of [] = 0
rows_of (c ∷ cs) = length c.rows + rows_of cs

rows_of_both : (xs ys : List ChunkData) → rows_of (xs ++ ys) ≡ rows_of xs + rows_of ys
rows_of_both [] ys = omega arith
rows_of_both (x ∷ xs) ys = let r = rows_of_both xs ys in omega (arith, r)

module _ {S : Type 0} (count : S → ℕ) where
  -- the rows of these chunks are added to the count, up to the greatest u64
  abbrev pub Counts : S → List ChunkData → S → Type 0
  Counts old ts new = RaisedBy (rows_of ts) (count old) (count new)

  pub counts_taking : IsTaking Counts
  counts_taking = record {
    none = λ s. record { least = omega arith; most = omega arith };
    more = λ a b c xs ys p q.
        (let n = rows_of_both xs ys in
        let lo = p.least in
        let hi = p.most in
        let low = q.least in
        let high = q.most in
        record { least = omega (arith, n, lo, hi, low, high); most = omega (arith, n, lo, hi, low, high) });
  }
