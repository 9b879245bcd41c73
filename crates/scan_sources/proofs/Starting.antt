-- Scans of which no part was given.
use Rattle.std.proofs.Common.{◌≡◌, ℕ, Bool, true, false, not, List, [], ◌∷◌, ◌++◌, map, filter, Option, Some, None, refl, ap, ◌∙◌}
use Rattle.std.specs.Prelude.{cond, is_some}
use Rattle.std.specs.declared.ops.Range.{Range}
use Rattle.scan_expr.specs.Bound.{Bound, bound_of}
use Rattle.scan_expr.specs.Expr.{Expr, root, row_index, literal, unary, binary, pack, is_and, conjuncts_of}
use Rattle.scan_limit.specs.Seats.{SeatState}
use Rattle.scan_plans.specs.PlanData.{PlanData}
use Rattle.scan_readers.specs.Readers.{ReaderState, numbers_alone}
use Rattle.scan_readers.specs.RowIdxData.{numbered_state}
use Rattle.scan_streams.specs.Plans.{has_filter, is_some_plan}
use Rattle.scan_core.specs.BuilderData.{conjuncts_in, range_or_all}
use Rattle.scan_core.specs.ScanData.{ScanData}
use Rattle.scan_core.specs.SplitMeaning.{ArePlansOf, in_turn}
use Rattle.scan_core.specs.Streaming.{IsOwnSeat}
use Rattle.scan_sources.specs.Requests.{IsScanOfRequest, shared_limit}
use Rattle.scan_sources.specs.Scans.{StartsScan, reader_scan}
use Rattle.scan_sources.specs.declared.request.BoundScanRequest.{BoundScanRequest}

abbrev has_some : {A : Type 0} → List A → Bool
has_some [] = false
has_some (x ∷ xs) = true

left_some : {A : Type 0} (xs ys : List A) → has_some xs ≡ true → has_some (xs ++ ys) ≡ true
left_some [] ys h = cc
left_some (x ∷ xs) ys h = refl

right_some : {A : Type 0} (xs ys : List A) → has_some ys ≡ true → has_some (xs ++ ys) ≡ true
right_some [] ys h = h
right_some (x ∷ xs) ys h = refl

-- an expression has a conjunct
some_conjunct : (e : Expr) → has_some (conjuncts_of e) ≡ true
some_conjunct root = refl
some_conjunct row_index = refl
some_conjunct (literal d v) = refl
some_conjunct (unary u e) = refl
some_conjunct (binary b x y) = go (is_and b) (some_conjunct x)
  where
    go : (t : Bool) → has_some (conjuncts_of x) ≡ true → has_some (cond t (conjuncts_of x ++ conjuncts_of y) (binary b x y ∷ [])) ≡ true
    go true h = left_some (conjuncts_of x) (conjuncts_of y) h
    go false h = refl
some_conjunct (pack ps n) = refl

some_map : {A B : Type 0} (f : A → B) (xs : List A) → has_some (map f xs) ≡ has_some xs
some_map f [] = refl
some_map f (x ∷ xs) = refl

filter_some : (f : Option Bound) → has_some (conjuncts_in f) ≡ is_some f
filter_some None = refl
filter_some (Some e) = some_map (bound_of e.scope) (conjuncts_of e.expr) ∙ some_conjunct e.expr

-- none is lost by the order in which they run
some_turn : (s : ReaderState) (cs : List Bound) → has_some (in_turn s cs) ≡ has_some cs
some_turn s [] = refl
some_turn s (c ∷ cs) = go (numbers_alone s c.expr) refl
  where
    go : (b : Bool) → numbers_alone s c.expr ≡ b → has_some (in_turn s (c ∷ cs)) ≡ true
    go true e = rw e refl
    go false e = rw e (right_some (filter (λ (d : Bound). numbers_alone s d.expr) cs) (c ∷ filter (λ (d : Bound). not (numbers_alone s d.expr)) cs) refl)

some_plans : (s : ReaderState) (cs : List Bound) (ps : List PlanData) → ArePlansOf s cs ps → is_some_plan ps ≡ has_some cs
some_plans s [] [] h = refl
some_plans s [] (p ∷ ps) h = absurd h
some_plans s (c ∷ cs) [] h = absurd h
some_plans s (c ∷ cs) (p ∷ ps) h = refl

pub filtered : {M : Type 0} (state : ReaderState) (q : BoundScanRequest) (s : ScanData M) → IsScanOfRequest state q s → has_filter s.plans ≡ is_some q.filter
filtered state q s h =
    let ns = numbered_state 0 state in
    let cs = conjuncts_in q.filter in
    some_plans ns (in_turn ns cs) (s.plans).conjuncts (h.plans).conjuncts ∙ some_turn ns cs ∙ filter_some q.filter

pub starts : {M : Type 0} (state : ReaderState) (n : ℕ) (q : BoundScanRequest) (s : ScanData M) (r : Range ℕ) (seat : Option SeatState)
    → IsScanOfRequest state q s → r ≡ range_or_all q.row_range state.rows → IsOwnSeat (shared_limit q) seat → StartsScan state n q (reader_scan s r.start r.end n q.limit seat)
starts state n q s r seat scan rows own = record {
  scan = scan;
  filtered = filtered state q s scan;
  next = ap (λ (z : Range ℕ). z.start) rows;
  end = ap (λ (z : Range ℕ). z.end) rows;
  size = refl;
  left = refl;
  seat = own;
}
