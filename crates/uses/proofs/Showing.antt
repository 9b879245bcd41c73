-- What a caller concludes that stops once it has enough rows.
use Rattle.std.proofs.Common.{◌≡◌, ℕ, zero, suc, ◌≤◌, ◌+◌, List, [], ◌∷◌, ◌++◌, Bool, true, false, Option, None, Some, refl, sym, ap, ◌∙◌, subst, length, take, arith}
use Rattle.vortex_scan.specs.Values.DataType.{DataType}
use Rattle.vortex_scan.specs.Values.declared.selection.Selection.TheVariants as selection
use Rattle.vortex_scan.specs.Expr.Expr.{Expr}
use Rattle.vortex_scan.specs.Expr.Infer.{infer}
use Rattle.vortex_scan.specs.Expr.declared.request.ScanRequest.{ScanRequest}
use Rattle.vortex_scan.specs.Segments.Cache.{CacheState}
use Rattle.vortex_scan.specs.Segments.Faults.{capped}
use Rattle.vortex_scan.specs.Segments.Source.{SourceState}
use Rattle.vortex_scan.specs.Segments.declared.segment.SegmentKey.{SegmentKey}
use Rattle.vortex_scan.specs.Opener.Opener.{OpenerState}
use Rattle.vortex_scan.specs.Drive.declared.driving.DriveEnd.{DriveEnd}
use Rattle.vortex_scan.specs.Drive.declared.files.ScanFile.{ScanFile}
use Rattle.vortex_scan.specs.Drive.declared.sink.Flow.{Flow}
use Rattle.vortex_scan.specs.Drive.declared.sink.Flow.TheVariants as flow
use Rattle.vortex_scan.specs.Multi.Answer.{Item, answer}
use Rattle.vortex_scan.specs.Multi.Lawful.{told, IsLawful}
use Rattle.vortex_scan.specs.Multi.Output.{ChunkData, IsGiven, given}
use Rattle.vortex_scan.specs.Multi.Taken.{TakesFront, EndsScan}
use Rattle.uses.specs.Shows.{Shows}
use Rattle.uses.specs.Uses.{rows_in, all_of}
use Rattle.uses.proofs.Concluding.{given-long}

pub all-is : (r : ScanRequest) (e : Expr) → r.projection ≡ e → r.filter ≡ None → r.row_range ≡ None → r.selection ≡ selection.All → r.partition_selection ≡ selection.All → r.partition_range ≡ None
    → r.ordered ≡ true → r.limit ≡ None → r ≡ all_of e
all-is r e p f w s t u o l = λ i. record {
  projection = p i;
  filter = f i;
  row_range = w i;
  selection = s i;
  partition_selection = t i;
  partition_range = u i;
  ordered = o i;
  limit = l i;
}

module _ {X : Type 0} where
  take-under : (n m : ℕ) (xs : List X) → n ≤ m → take n (take m xs) ≡ take n xs
  take-under zero m xs le = refl
  take-under (suc n) zero xs le = absurd (omega (arith, le))
  take-under (suc n) (suc m) [] le = refl
  take-under (suc n) (suc m) (x ∷ xs) le = ap (λ ys. x ∷ ys) (take-under n m xs (omega (arith, le)))

  take-long : (m : ℕ) (xs : List X) → length (take m xs) ≤ m
  take-long zero xs = omega arith
  take-long (suc m) [] = omega arith
  take-long (suc m) (x ∷ xs) = let r = take-long m xs in omega (arith, r)

-- in order, and so in a request for all rows
ordered-all : (b : Bool) (limit : Option ℕ) (all items : List Item) → b ≡ true → limit ≡ None → IsGiven b limit all items → items ≡ all
ordered-all true None all items o l g = g
ordered-all true (Some n) all items o l g = cc
ordered-all false limit all items o l g = cc

ordered-front : (b : Bool) (m : ℕ) (all items : List Item) → b ≡ true → IsGiven b (Some m) all items → items ≡ take m all
ordered-front true m all items o g = g
ordered-front false m all items o g = cc

-- ---- a chunk more is kept and counted
more-rows : (cs : List ChunkData) (c : ChunkData) → rows_in (cs ++ c ∷ []) ≡ rows_in cs + length c.rows
more-rows [] c = omega arith
more-rows (x ∷ xs) c = let r = more-rows xs c in omega (arith, r)

pub one-more : (n : ℕ) (cs : List ChunkData) (c : ChunkData) → n ≡ capped (rows_in cs) → capped (n + length c.rows) ≡ capped (rows_in (cs ++ c ∷ []))
one-more n cs c is = let r = more-rows cs c in omega (arith, is, r)

-- ---- what was shown once the scan ends
module _ {O S K : Type 0} (opener : O → OpenerState) (source : S → SourceState) (chunks : K → List ChunkData) (rows most : K → ℕ) (workers : ℕ) (d : DataType) (q : ScanRequest) (e : Expr) (is : q ≡ all_of e) (old new : List (ScanFile O S))
    (c c' : CacheState SegmentKey) (sink sink' : K) (none : chunks sink ≡ []) (zeroed : rows sink ≡ 0) (end : DriveEnd) where
  pub shown : EndsScan opener source (Shows chunks rows most) workers d q old new c c' (most sink' ≤ rows sink') sink sink' end → TakesFront opener source (Shows chunks rows most) d q old c sink sink' → IsLawful opener source old c
      → take (most sink) (given (chunks sink')) ≡ take (most sink) (answer d (all_of e) (told opener source old))
  shown h t l = subst (λ (z : ScanRequest). take (most sink) (given (chunks sink')) ≡ take (most sink) (answer d z (told opener source old))) is (go end.flow refl)
    where
      order : q.ordered ≡ true
      order = ap (λ (z : ScanRequest). z.ordered) is

      -- from none, the sink has just what it has taken
      kept : (xs : List ChunkData) → Shows chunks rows most sink xs sink' → chunks sink' ≡ xs
      kept xs s = s.kept ∙ ap (λ zs. zs ++ xs) none

      go : (f : Flow) → end.flow ≡ f → take (most sink) (given (chunks sink')) ≡ take (most sink) (answer d q (told opener source old))
      go flow.More w =
          let s = h.whole w in
          let all = (s.scan.admits l).items in
          ap (take (most sink)) (ap given (kept s.chunks s.took) ∙ ordered-all q.ordered q.limit (answer d q (told opener source old)) (given s.chunks) order (ap (λ (z : ScanRequest). z.limit) is) all)
      go flow.Stop w =
          let enough = h.stop w in
          let f = t.front l in
          let first : given t.chunks ≡ take f.most (answer d q (told opener source old)) = ordered-front q.ordered f.most (answer d q (told opener source old)) (given t.chunks) order f.items in
          let long = given-long (infer d q.projection) t.chunks f.chunks in
          let few = take-long f.most (answer d q (told opener source old)) in
          let same = ap length first in
          let counted : rows sink' ≡ capped (rows_in t.chunks) = t.took.count (zeroed ∙ ap (λ xs. capped (rows_in xs)) (sym none)) ∙ ap (λ xs. capped (rows_in xs)) (kept t.chunks t.took) in
          let wants = t.took.wants in
          ap (take (most sink)) (ap given (kept t.chunks t.took) ∙ first) ∙ take-under (most sink) f.most (answer d q (told opener source old)) (omega (arith, enough, counted, wants, long, few, same))
