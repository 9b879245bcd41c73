-- Rows that are read with nothing live before and after.
use Rattle.std.proofs.Common.{◌≡◌, ◌≤◌, ◌<◌, ◌+◌, ◌++◌, ◌||◌, ◌&&◌, ℕ, Bool, true, false, cond, List, [], ◌∷◌, Option, Some, None, is_some, map, drop, get_or, length, inl, inr, refl, sym, ap, ◌∙◌, subst, arith, eqb, append-nil}
use Rattle.std.specs.Prelude.{◌⊎◌, All, Result, Ok, Err, IfOk, IfErr, OnOk}
use Rattle.std.specs.Ordering.{nat_cmp}
use Rattle.std.specs.List.{list_any}
use Rattle.std.specs.FinMap as map
use Rattle.std.proofs.Math.Seq.{drop-append_seam}
use Rattle.std.proofs.lemmas.Bool.Decides.{nat_tests}
use Rattle.std.proofs.lemmas.List.Elements.{All-contains, All-head, All-tail}
use Rattle.scan_values.specs.Marked.{Marked}
use Rattle.scan_values.specs.Selections.{is_among}
use Rattle.scan_values.specs.Val.{Val, marked}
use Rattle.scan_expr.specs.Bound.{Bound}
use Rattle.scan_expr.specs.Eval.{eval}
use Rattle.scan_layout.specs.Layout.{Layout, rows_of}
use Rattle.scan_layout.specs.RowValue.{row_value}
use Rattle.scan_segments.specs.Source.{SourceState, Store, none_live}
use Rattle.scan_splits.specs.Arrivals.{Arrivals}
use Rattle.scan_splits.specs.declared.inbox.Arrival.{Arrival}
use Rattle.scan_plans.specs.Came.{Came, Holds}
use Rattle.scan_plans.specs.Futures.{future_overflow, future_spoiled, future_wanted}
use Rattle.scan_plans.specs.Meaning as plan
use Rattle.scan_plans.specs.PlanData.{PlanData}
use Rattle.scan_plans.specs.Wants.{names_id}
use Rattle.scan_drive.specs.Desks.{Waiters, Agree}
use Rattle.scan_drive.specs.Drivings.{IsKeptIn, SourceFailed}
use Rattle.scan_drive.specs.Sources.{SourceMoves, NoId}
use Rattle.scan_drive.specs.Trades.{Trades}
use Rattle.scan_drive.specs.Traffic.{WasAsked}
use Rattle.scan_drive.specs.Wants.{Cache}
use Rattle.scan_drive.proofs.Balancing.{closed_balance, closed_ledger, same_asked, report_then}
use Rattle.scan_drive.proofs.Failing.{among_contains, rose_more}
use Rattle.scan_drive.proofs.Trading.{trades_self, trades_then}
use Rattle.scan_fetch.specs.Fetches.{IsTold, KeepsCounts, Point, point, is_live, is_here, IsApart, HasLeft, HasFetched, StaysIdle}
use Rattle.scan_fetch.proofs.Stepping.{counts_then}
use Rattle.scan_seek.specs.KeptData.{KeptData, ready}
use Rattle.scan_seek.specs.KeptView.{IsPlanOver}
use Rattle.scan_seek.specs.Keeps.{HasRow}
use Rattle.scan_seek.specs.Reads.{value_at, touches, spoils, overflows_at, any_touches, any_spoils, any_overflows, AreRead, HasSeekCause, SeekMoves}
use Rattle.scan_seek.specs.Rows.{one_row, NoneOverflows, MayRead, IsSpoiled, LeavesRows, GivesRows, FailsSince, FailsRows, AreValuesOf, HasPlanCause, LetsRead, ReadMoves}
use Rattle.scan_seek.specs.declared.reading.SeekFault.{SeekFault}
use Rattle.scan_seek.specs.declared.reading.SeekFault.TheVariants as fault
use Rattle.scan_seek.proofs.OneRow.{from_zero, wants, spoiled, overflow, within}

-- ---- the first point
none_live_at : (s : SourceState) (id : ℕ) → s.live ≡ none_live → s.live id ≡ false
none_live_at s id e = ap (λ (f : ℕ → Bool). f id) e

nothing_here : (id : ℕ) → is_some (map.get {X = Arrival} {R = nat_cmp} map.empty id) ≡ false
nothing_here id = ap is_some (map.get-empty nat_cmp id)

true_false : (b : Bool) → b ≡ true → b ≡ false → ⊥
true_false true p q = cc
true_false false p q = cc

module _ (name : List ℕ) (s : SourceState) (c : Cache) (idle : s.live ≡ none_live) where
  abbrev pub first : Point
  first = point s c [] map.empty

  pub first_agree : Agree s.live []
  first_agree id = none_live_at s id idle

  pub first_apart : IsApart first
  first_apart id l = absurd (true_false (s.live id) l (none_live_at s id idle))

  pub first_left : (may : Store → ℕ → Bool) → HasLeft may name first first
  first_left may = record {
    holds = refl;
    faults = omega arith;
    turns = omega arith;
    can_fail = refl;
    ids = [];
    asked = sym (append-nil s.asked);
    once = refl;
    live_asked = λ id l. absurd (true_false (s.live id) l (none_live_at s id idle));
    may_be = λ store told id n. absurd cc;
    arrived = λ id h. absurd (true_false (is_here first id) h (nothing_here id));
    kept = λ id off k. k;
    tells = λ store told id a e. absurd (true_false (is_here first id) (ap is_some e) (nothing_here id));
    trades = trades_self name s c;
  }

  pub first_fetched : (may : Store → ℕ → Bool) → HasFetched may name first first
  unfolding first_left
  first_fetched may = record { left = first_left may; ends = λ id n. absurd cc }

-- ---- what is left once all is closed
module _ (pl : PlanData) (rows : List ℕ) (name : List ℕ) (s : SourceState) (c : Cache) (idle : s.live ≡ none_live) (q : Point) (t : SourceState) (closes : SourceMoves NoId q.source t) (none : t.live ≡ none_live)
    (l : LeavesRows pl rows name (first name s c idle) q) where
  left : (may : Store → ℕ → Bool) → LetsRead pl rows name s may c → HasLeft may name (first name s c idle) q
  left may lets = l.leaves may (first name s c idle) lets (first_fetched name s c idle may)

  any : HasLeft (λ store id. true) name (first name s c idle) q
  any = left (λ store id. true) (λ row n store told here h id w. refl)

  same_ids : (may : Store → ℕ → Bool) (h : HasLeft may name (first name s c idle) q) → h.ids ≡ any.ids
  same_ids may h = sym (drop-append_seam s.asked h.ids) ∙ ap (drop (length s.asked)) (sym h.asked ∙ any.asked) ∙ drop-append_seam s.asked any.ids

  pub moves_closed : ReadMoves pl rows name s t c q.cache
  moves_closed = record {
    holds = closes.holds ∙ any.holds;
    faults = let a = any.faults in let b = closes.faults in omega arith;
    turns = let a = any.turns in let b = closes.turns in omega arith;
    can_fail = closes.can_fail ∙ any.can_fail;
    idle = none;
    ids = any.ids;
    asked = same_asked q.source t closes ∙ any.asked;
    once = any.once;
    may_be = λ may lets store told id n. let h = left may lets in h.may_be store told id (subst (λ (ids : List ℕ). is_among ids id ≡ true) (sym (same_ids may h)) n);
    trades = trades_then name s q.source t c q.cache q.cache any.holds any.trades (record { trusts = λ n store e u. u; ledger = closed_ledger name q.source t q.cache closes none });
  }

-- as many requests are live as there were: none
pub counts_closed : (pl : PlanData) (rows : List ℕ) (name : List ℕ) (s : SourceState) (c : Cache) (idle : s.live ≡ none_live) (q : Point) (t : SourceState) (vs : List Val) → SourceMoves NoId q.source t → t.live ≡ none_live
    → GivesRows pl rows name (first name s c idle) q vs → KeepsCounts name s t c q.cache
counts_closed pl rows name s c idle q t vs closes none g =
    counts_then name s q.source t c q.cache q.cache (g.goes).counts (λ report. (report, λ lost. closed_balance name q.source t q.cache report lost closes was none))
  where
    was : (q.source).live ≡ none_live
    was = λ i k. g.idle (λ id. none_live_at s id idle) k i

pub values_closed : (pl : PlanData) (rows : List ℕ) (name : List ℕ) (s : SourceState) (c : Cache) (idle : s.live ≡ none_live) (q : Point) (vs : List Val) → GivesRows pl rows name (first name s c idle) q vs → AreValuesOf pl rows name s c vs
values_closed pl rows name s c idle q vs g = (
  g.count,
  λ store told. g.values (λ x id. true) (first name s c idle) (λ row n x told' here h id w. refl) (first_fetched name s c idle (λ x id. true)) store told,
  λ store told. g.within (λ x id. true) (first name s c idle) (λ row n x told' here h id w. refl) (first_fetched name s c idle (λ x id. true)) store told,
)

pub fails_closed : (pl : PlanData) (rows : List ℕ) (name : List ℕ) (s : SourceState) (c : Cache) (idle : s.live ≡ none_live) (q : Point) (t : SourceState) (e : SeekFault) → SourceMoves NoId q.source t
    → FailsRows pl rows name (first name s c idle) q e → HasPlanCause pl rows name s t c e
fails_closed pl rows name s c idle q t e closes f = go e (f (λ x id. true) (first name s c idle) (λ row n x told here h id w. refl) (first_fetched name s c idle (λ x id. true)))
  where
    asked : (id : ℕ) → WasAsked id s q.source → WasAsked id s t
    asked id w = record { ids = w.ids; asked = same_asked q.source t closes ∙ w.asked; among = w.among }

    came : (id : ℕ) → WasAsked id s q.source ⊎ IsKeptIn c name id → WasAsked id s t ⊎ IsKeptIn c name id
    came id (inl w) = inl (asked id w)
    came id (inr k) = inr k

    go : (x : SeekFault) → FailsSince pl rows name (first name s c idle) q (first name s c idle) x → HasPlanCause pl rows name s t c x
    go fault.NoMemory h = tt
    go (fault.Source id) h = ((rose_more s.faults (q.source).faults t.faults h.0.0 closes.faults, h.0.1), asked id h.1)
    go (fault.Corrupt id) h = (h.0, came id h.1)
    go (fault.Overflow row) h = h

-- ---- rows of a plan are rows of the layout that it is over
list_any_among : (f : ℕ → Bool) (xs : List ℕ) (x : ℕ) → is_among xs x ≡ true → f x ≡ true → list_any f xs ≡ true
list_any_among f [] x n h = absurd cc
list_any_among f (y ∷ xs) x n h = go (eqb y x) refl n (λ k. list_any_among f xs x k h)
  where
    or_right : (a b : Bool) → b ≡ true → (a || b) ≡ true
    or_right true b e = refl
    or_right false b e = e

    or_left : (a b : Bool) → a ≡ true → (a || b) ≡ true
    or_left true b e = refl
    or_left false b e = absurd cc

    go : (b : Bool) → eqb y x ≡ b → (b || is_among xs x) ≡ true → (is_among xs x ≡ true → list_any f xs ≡ true) → (f y || list_any f xs) ≡ true
    go true e k ih = or_left (f y) (list_any f xs) (let is : y ≡ x = grind (arith, nat_tests) in ap f is ∙ h)
    go false e k ih = or_right (f y) (list_any f xs) (ih k)

module _ (l : Layout) (e : Bound) (pl : PlanData) (over : IsPlanOver l e pl) (rows : List ℕ) (below : All (λ (row : ℕ). row < rows_of l) rows) where
  at : (row : ℕ) → is_among rows row ≡ true → row < rows_of l
  at row n = All-contains (λ (r : ℕ). r < rows_of l) rows row below (among_contains rows row n)

  pub values_so : (store : Store) (is : List ℕ) → All (λ (row : ℕ). row < rows_of l) is → map (plan.value_at pl.tree store) is ≡ map (value_at l e store) is
  values_so store [] b = refl
  values_so store (i ∷ is) b =
      ap (λ (m : Marked). m ∷ map (plan.value_at pl.tree store) is) (over.value store i (All-head (λ (row : ℕ). row < rows_of l) i is b) ∙ ap (eval e.scope e.expr (row_value l store i)) (from_zero i))
      ∙ ap (λ (ms : List Marked). value_at l e store i ∷ ms) (values_so store is (All-tail (λ (row : ℕ). row < rows_of l) i is b))

  within_so : (store : Store) (is : List ℕ) → All (λ (row : ℕ). row < rows_of l) is → NoneOverflows pl store is → All (λ (row : ℕ). overflows_at l e store row ≡ false) is
  within_so store is b n = λ i x lt. within l e pl over store (get_or is i x) (b i x lt) (n i x lt)

  module _ (name : List ℕ) (s : SourceState) (c : Cache) where
    pub are_read : (vs : List Val) → AreValuesOf pl rows name s c vs → AreRead (ready l e) rows name s c vs
    are_read vs v = record {
      count = v.0;
      values = λ store told. v.1 store told ∙ values_so store rows below;
      no_overflow = λ store told. within_so store rows below (v.2 store told);
    }

    lets : LetsRead pl rows name s (any_touches (ready l e) rows) c
    lets row n store told here h id w = list_any_among (λ r. touches l e store r id) rows row n (wants l e pl over store here row id (at row n) h w)

    pub seek_moves : (t : SourceState) (d : Cache) → ReadMoves pl rows name s t c d → SeekMoves (ready l e) rows name s t c d
    seek_moves t d m = record {
      holds = m.holds;
      faults = m.faults;
      turns = m.turns;
      can_fail = m.can_fail;
      idle = m.idle;
      ids = m.ids;
      asked = m.asked;
      once = m.once;
      touched = m.may_be (any_touches (ready l e) rows) lets;
      trades = m.trades;
    }

    pub seek_cause : (t : SourceState) (x : SeekFault) → HasPlanCause pl rows name s t c x → HasSeekCause (ready l e) rows name s t c x
    seek_cause t fault.NoMemory h = tt
    seek_cause t (fault.Source id) h = h
    seek_cause t (fault.Corrupt id) h = (
      λ store told. let z = h.0 store told in list_any_among (λ r. spoils l e store r id) rows z.row z.listed (spoiled l e pl over store z.here z.row id (at z.row z.listed) z.holds z.spoiled),
      h.1,
    )
    seek_cause t (fault.Overflow row) h = (h.0, λ store told. overflow l e pl over store row (at row h.0) (h.1 store told))

-- ---- a call that begins with nothing
pub if_ok : {T E : Type 0} {P Q : T → Type 0} (r : Result T E) → ((x : T) → P x → Q x) → IfOk r P → IfOk r Q
if_ok (Ok x) f h = f x h
if_ok (Err e) f h = tt

pub if_err : {T E : Type 0} {P Q : E → Type 0} (r : Result T E) → ((e : E) → P e → Q e) → IfErr r P → IfErr r Q
if_err (Ok x) f h = tt
if_err (Err e) f h = f e h

pub ok_on : {T E : Type 0} {P : T → Type 0} {Q : Type 0} (r : Result T E) → ((x : T) → P x → Q) → IfOk r P → OnOk r Q
ok_on (Ok x) f h = f x h
ok_on (Err e) f h = tt

pub nothing_read : (pl : PlanData) (rows : List ℕ) (name : List ℕ) (s : SourceState) (c : Cache) → s.live ≡ none_live → ReadMoves pl rows name s s c c
nothing_read pl rows name s c idle = record {
  holds = refl;
  faults = omega arith;
  turns = omega arith;
  can_fail = refl;
  idle = idle;
  ids = [];
  asked = sym (append-nil s.asked);
  once = refl;
  may_be = λ may lets store told id n. absurd cc;
  trades = trades_self name s c;
}

module _ (name n : List ℕ) (s : SourceState) (c : Cache) (idle : s.live ≡ none_live) (d : Waiters) (a : Arrivals) (is_name : n ≡ name) (is_desk : d ≡ []) (is_inbox : a ≡ map.empty) where
  pub start_agree : Agree s.live d
  start_agree = subst (Agree s.live) (sym is_desk) (first_agree name s c idle)

  start_point : point s c d a ≡ first name s c idle
  start_point = ap (λ (x : Waiters). point s c x a) is_desk ∙ ap (λ (x : Arrivals). point s c [] x) is_inbox

  pub start_apart : IsApart (point s c d a)
  start_apart = subst IsApart (sym start_point) (first_apart name s c idle)

  module _ (pl : PlanData) (rows : List ℕ) (q : Point) where
    pub start_leaves : LeavesRows pl rows n (point s c d a) q → LeavesRows pl rows name (first name s c idle) q
    start_leaves h = subst (λ (m : List ℕ). LeavesRows pl rows m (first name s c idle) q) is_name (subst (λ (p : Point). LeavesRows pl rows n p q) start_point h)

    pub start_gives : (vs : List Val) → GivesRows pl rows n (point s c d a) q vs → GivesRows pl rows name (first name s c idle) q vs
    start_gives vs h = subst (λ (m : List ℕ). GivesRows pl rows m (first name s c idle) q vs) is_name (subst (λ (p : Point). GivesRows pl rows n p q vs) start_point h)

    pub start_fails : (e : SeekFault) → FailsRows pl rows n (point s c d a) q e → FailsRows pl rows name (first name s c idle) q e
    start_fails e h = subst (λ (m : List ℕ). FailsRows pl rows m (first name s c idle) q e) is_name (subst (λ (p : Point). FailsRows pl rows n p q e) start_point h)
