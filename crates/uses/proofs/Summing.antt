-- Sums of columns are those of the rows that they give.
use Rattle.std.proofs.Common.{◌≡◌, ℕ, zero, suc, ◌+◌, ◌<◌, ◌≤◌, ℤ, pos, ◌+ℤ◌, List, [], ◌∷◌, ◌++◌, length, map, drop, get_or, true, refl, sym, ap, ◌∙◌, arith, None, Some, drop_of_length-le}
use Rattle.std.specs.Prelude.{All, zip, Option, IfSome}
use Rattle.std.proofs.Math.IntN.{+ℤ_assoc, +ℤ_idl, +ℤ_idr}
use Rattle.std.proofs.lemmas.List.Elements.{All-head, All-tail}
use Rattle.vortex_scan.specs.Values.DataType.{DataType}
use Rattle.vortex_scan.specs.Values.Val.{Val, int_val}
use Rattle.vortex_scan.specs.Expr.declared.request.ScanRequest.{ScanRequest}
use Rattle.vortex_scan.specs.Segments.Cache.{CacheState}
use Rattle.vortex_scan.specs.Segments.Source.{SourceState}
use Rattle.vortex_scan.specs.Segments.declared.segment.SegmentKey.{SegmentKey}
use Rattle.vortex_scan.specs.Opener.Opener.{OpenerState}
use Rattle.vortex_scan.specs.Drive.declared.files.ScanFile.{ScanFile}
use Rattle.vortex_scan.specs.Multi.Answer.{Item, answer}
use Rattle.vortex_scan.specs.Multi.Lawful.{told, IsLawful}
use Rattle.vortex_scan.specs.Multi.Output.{ChunkData, OutputData, IsChunk, chunk_items, given}
use Rattle.vortex_scan.specs.Multi.Scans.{IsScan}
use Rattle.uses.specs.Sums.{number_in, sum_of, with_value, values_in, chunk_values}
use Rattle.uses.specs.Uses.{wanted}
use Rattle.uses.proofs.Concluding.{in-order}

pub sum_both : (xs ys : List Val) → sum_of (xs ++ ys) ≡ sum_of xs +ℤ sum_of ys
sum_both [] ys = sym (+ℤ_idl (sum_of ys))
sum_both (x ∷ xs) ys = ap (λ z. number_in x +ℤ z) (sum_both xs ys) ∙ sym (+ℤ_assoc (number_in x) (sum_of xs) (sum_of ys))

-- ---- a number more, and a chunk more
pub number_more : (xs : List ℤ) (i : ℕ) (x sum next whole : ℤ) → i < length xs → x ≡ get_or xs i x → next ≡ sum +ℤ x → sum +ℤ sum_of (map int_val (drop i xs)) ≡ whole → next +ℤ sum_of (map int_val (drop (i + 1) xs)) ≡ whole
number_more [] i x sum next whole lt is n e = absurd (omega (arith, lt))
number_more (y ∷ xs) zero x sum next whole lt is n e =
    (λ j. n j +ℤ sum_of (map int_val xs)) ∙ +ℤ_assoc sum x (sum_of (map int_val xs)) ∙ (λ j. sum +ℤ (is j +ℤ sum_of (map int_val xs))) ∙ e
number_more (y ∷ xs) (suc i) x sum next whole lt is n e = let k : suc i + 1 ≡ suc (i + 1) = omega arith in rw k (number_more xs i x sum next whole (omega (arith, lt)) is n e)

pub chunk_more : (cs : List ChunkData) (i : ℕ) (c : ChunkData) (vs : List Val) (sum next whole : ℤ) → i < length cs → c ≡ get_or cs i c → vs ≡ c.values.items → next ≡ sum +ℤ sum_of vs
    → sum +ℤ sum_of (chunk_values (drop i cs)) ≡ whole → next +ℤ sum_of (chunk_values (drop (i + 1) cs)) ≡ whole
chunk_more [] i c vs sum next whole lt is v n e = absurd (omega (arith, lt))
chunk_more (d ∷ cs) zero c vs sum next whole lt is v n e =
    (λ j. n j +ℤ sum_of (chunk_values cs)) ∙ +ℤ_assoc sum (sum_of vs) (sum_of (chunk_values cs)) ∙ ap (λ z. sum +ℤ z) (sym (sum_both vs (chunk_values cs)))
    ∙ (λ j. sum +ℤ sum_of ((v ∙ ap (λ (z : ChunkData). z.values.items) is) j ++ chunk_values cs)) ∙ e
chunk_more (d ∷ cs) (suc i) c vs sum next whole lt is v n e = let k : suc i + 1 ≡ suc (i + 1) = omega arith in rw k (chunk_more cs i c vs sum next whole (omega (arith, lt)) is v n e)

-- ---- the values of chunks are those of their rows
values_both : (xs ys : List Item) → values_in (xs ++ ys) ≡ values_in xs ++ values_in ys
values_both [] ys = refl
values_both (x ∷ xs) ys = ap (with_value x.value) (values_both xs ys) ∙ moved x.value (values_in xs) (values_in ys)
  where
    moved : (o : Option Val) (vs ws : List Val) → with_value o (vs ++ ws) ≡ with_value o vs ++ ws
    moved None vs ws = refl
    moved (Some v) vs ws = refl

rows_values : (file : ℕ) (rows : List ℕ) (vs : List Val) → length rows ≡ length vs → values_in (map (λ r. record { file = file; row = r.0; value = Some r.1 }) (zip rows vs)) ≡ vs
rows_values file [] [] e = refl
rows_values file [] (v ∷ vs) e = absurd (omega (arith, e))
rows_values file (r ∷ rows) [] e = absurd (omega (arith, e))
rows_values file (r ∷ rows) (v ∷ vs) e = λ i. v ∷ rows_values file rows vs (omega (arith, e)) i

pub given_values : (d : DataType) (cs : List ChunkData) → All (IsChunk d) cs → values_in (given cs) ≡ chunk_values cs
given_values d [] all = refl
given_values d (c ∷ cs) all =
    let one = All-head (IsChunk d) c cs all in
    values_both (chunk_items c) (given cs) ∙ (λ i. rows_values c.file c.rows c.values.items one.even i ++ given_values d cs (All-tail (IsChunk d) c cs all) i)

-- ---- no number and no chunk is left
pub numbers_over : (xs : List ℤ) (i : ℕ) (sum whole : ℤ) → length xs ≤ i → sum +ℤ sum_of (map int_val (drop i xs)) ≡ whole → sum ≡ whole
numbers_over xs i sum whole le e =
    sym (+ℤ_idr sum) ∙ ap (λ (zs : List ℤ). sum +ℤ sum_of (map int_val zs)) (sym (drop_of_length-le xs le)) ∙ e

pub chunks_over : (cs : List ChunkData) (i : ℕ) (sum whole : ℤ) → length cs ≤ i → sum +ℤ sum_of (chunk_values (drop i cs)) ≡ whole → sum ≡ whole
chunks_over cs i sum whole le e =
    sym (+ℤ_idr sum) ∙ ap (λ (zs : List ChunkData). sum +ℤ sum_of (chunk_values zs)) (sym (drop_of_length-le cs le)) ∙ e

module _ {O S : Type 0} (opener : O → OpenerState) (source : S → SourceState) (workers : ℕ) (d : DataType) (q : ScanRequest) (old new : List (ScanFile O S)) (c c' : CacheState SegmentKey) (out : OutputData) where
  pub summed : (z : ℤ) → z ≡ sum_of (chunk_values out.chunks) → IsScan opener source workers d q old new c c' out → IsLawful opener source old c → q.ordered ≡ true
      → z ≡ sum_of (values_in (wanted opener source d q old))
  summed z e s l o =
      let a = s.admits l in
      e ∙ ap sum_of (sym (given_values _ out.chunks a.chunks) ∙ ap values_in (in-order q.ordered q.limit (answer d q (told opener source old)) (given out.chunks) o a.items))
