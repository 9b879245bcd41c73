-- What was read of a stream, poll by poll.
use Rattle.std.proofs.Common.{◌≡◌, ◌≤◌, ◌<◌, ◌+◌, ℕ, Bool, true, false, List, [], ◌++◌, length, map, take, Option, Some, inl, inr, refl, sym, ap, subst, ◌∙◌, append_assoc, append-nil, length-append, arith}
use Rattle.std.specs.Prelude.{◌⊎◌}
use Rattle.std.proofs.lemmas.List.{length-map, take-map}
use Rattle.scan_values.specs.Arrays.{ArrayData}
use Rattle.scan_values.specs.Marked.{Marked}
use Rattle.scan_values.specs.Val.{marked}
use Rattle.scan_segments.specs.Source.{SourceState, Store}
use Rattle.scan_limit.specs.Seats.{SeatState}
use Rattle.scan_plans.specs.Came.{Came}
use Rattle.scan_plans.specs.Futures.{FutureData}
use Rattle.scan_streams.specs.Feeds.{FeedData}
use Rattle.scan_streams.specs.Grants.{Grants, is_spent}
use Rattle.scan_streams.specs.Looks.{MayAsk}
use Rattle.scan_streams.specs.Sources.{SourceMoves}
use Rattle.scan_streams.specs.Splits.{SplitData, AllHold, Alike, Goes, SomeComesTo, parts_left, clean_left, damage_left, overflow_left, may_want, one_part, reach, wants_id}
use Rattle.scan_streams.specs.Streams.{GivesRows, GoesOn, MayFeed, PutsOff, SameFeed}
use Rattle.scan_streams.proofs.Asking.{moves_self, moves_then, moves_weaker}
use Rattle.scan_streams.proofs.Going.{alike_append, alike_refl, alike_same, alike_then}
use Rattle.scan_collect.specs.Gathers.{AddsArray, AddsNone}
use Rattle.scan_collect.specs.Reads.{IsAlone, joined, values_given}
use Rattle.scan_collect.proofs.Claiming.{Claims, claims_more, claims_none, spent_on}
use Rattle.scan_collect.proofs.Joining.{given_more, joined_more}

-- Reading on has given these lists of values: they and those of each split that is left are those of each before.
pub record GoesFar (ordered : Bool) (holds : Option Store) (got : List (List Marked)) (old new : List SplitData) : Type 0 where
  pub stay : (store : Store) → holds ≡ Some store → AllHold store old → AllHold store new
  pub items : (store : Store) → holds ≡ Some store → AllHold store old → Alike ordered (parts_left store old) (got ++ parts_left store new)
  pub clean : (store : Store) → holds ≡ Some store → AllHold store old → Alike ordered (clean_left store old) (got ++ clean_left store new)
  pub overflow : (store : Store) → holds ≡ Some store → AllHold store old → overflow_left store new ≡ overflow_left store old
  pub damage : (store : Store) → holds ≡ Some store → AllHold store old → damage_left store new ≡ damage_left store old
  pub comes : (test : FutureData → Came → Bool) (store : Store) → holds ≡ Some store → AllHold store old
      → SomeComesTo test store new → SomeComesTo test store old
  pub may : (id : ℕ) → may_want new id ≡ true → may_want old id ≡ true
  pub reach : length (joined got) + reach new ≤ reach old

pub far_none : (ordered : Bool) (holds : Option Store) (ss : List SplitData) → GoesFar ordered holds [] ss ss
far_none ordered holds ss = record {
  stay = λ store e h. h;
  items = λ store e h. alike_refl ordered (parts_left store ss);
  clean = λ store e h. alike_refl ordered (clean_left store ss);
  overflow = λ store e h. refl;
  damage = λ store e h. refl;
  comes = λ test store e h c. c;
  may = λ id h. h;
  reach = omega arith;
}

further : (ordered : Bool) (got one : List (List Marked)) (a b c : List (List Marked)) → Alike ordered a (got ++ b) → Alike ordered b (one ++ c) → Alike ordered a ((got ++ one) ++ c)
further ordered got one a b c h k =
    alike_then ordered a (got ++ b) ((got ++ one) ++ c) h
    (alike_then ordered (got ++ b) (got ++ (one ++ c)) ((got ++ one) ++ c)
    (alike_append ordered got got b (one ++ c) (alike_refl ordered got) k)
    (alike_same ordered (got ++ (one ++ c)) ((got ++ one) ++ c) (sym (append_assoc got one c))))

pub far_then : (ordered : Bool) (holds : Option Store) (got : List (List Marked)) (given : List Marked) (a b c : List SplitData)
    → GoesFar ordered holds got a b → Goes ordered holds given b c → GoesFar ordered holds (got ++ one_part given) a c
far_then ordered holds got given a b c g k = record {
  stay = λ store e h. k.stay store e (g.stay store e h);
  items = λ store e h. further ordered got (one_part given) (parts_left store a) (parts_left store b) (parts_left store c) (g.items store e h) (k.items store e (g.stay store e h));
  clean = λ store e h. further ordered got (one_part given) (clean_left store a) (clean_left store b) (clean_left store c) (g.clean store e h) (k.clean store e (g.stay store e h));
  overflow = λ store e h. k.overflow store e (g.stay store e h) ∙ g.overflow store e h;
  damage = λ store e h. k.damage store e (g.stay store e h) ∙ g.damage store e h;
  comes = λ test store e h t. g.comes test store e h (k.comes test store e (g.stay store e h) t);
  may = λ id h. g.may id (k.may id h);
  reach =
      let r = g.reach in
      let s = k.reach in
      let long = ap length (joined_more got given) ∙ length-append (joined got) given in
      omega (arith, r, s, long);
}

-- what was read of a feed so far, from its start, and what its source did
pub record HasRead (s0 : SourceState) (f0 : FeedData) (s : SourceState) (f : FeedData) (values : List Marked) : Type 0 where
  pub ordered : f.ordered ≡ f0.ordered
  pub ended : f.ended ≡ f0.ended
  pub moves : SourceMoves (MayFeed s0.holds f0) s0 s
  pub spent : is_spent f0.seat ≡ true → is_spent f.seat ≡ true
  pub got : List (List Marked)
  pub goes : GoesFar f0.ordered s0.holds got f0.splits f.splits
  pub seat : IsAlone f0.seat (reach f0.splits) → Claims f0.seat f.seat (joined got) values

pub read_none : (s : SourceState) (f : FeedData) → HasRead s f s f []
read_none s f = record {
  ordered = refl;
  ended = refl;
  moves = moves_self (MayFeed s.holds f) s;
  spent = λ h. h;
  got = [];
  goes = far_none f.ordered s.holds f.splits;
  seat = λ alone. claims_none f.seat (reach f.splits) alone;
}

unspent : (a b : Bool) → (a ≡ true → b ≡ true) → b ≡ false → a ≡ false
unspent true b h k = let t = h refl in absurd cc
unspent false b h k = refl

module _ (s0 : SourceState) (f0 : FeedData) (s : SourceState) (f : FeedData) (values : List Marked) (r : HasRead s0 f0 s f values) where
  may_first : (id : ℕ) → MayFeed s.holds f id → MayFeed s0.holds f0 id
  may_first id h = (sym r.ended ∙ h.0, unspent (is_spent f0.seat) (is_spent f.seat) r.spent h.1, asks h.2)
    where
      asks : MayAsk s.holds f.splits id → MayAsk s0.holds f0.splits id
      asks k = ((r.goes).may id k.0, λ store e hold. (r.goes).comes (wants_id id) store e hold (k.1 store ((r.moves).holds ∙ e) ((r.goes).stay store e hold)))

  -- what the source did from the start
  pub moves_first : (t : SourceState) → SourceMoves (MayFeed s.holds f) s t → SourceMoves (MayFeed s0.holds f0) s0 t
  moves_first t m = moves_then (MayFeed s0.holds f0) s0 s t r.moves (moves_weaker (MayFeed s.holds f) (MayFeed s0.holds f0) s t may_first m)

  -- the splits that are left, from the start
  pub goes_first : (given : List Marked) (ss : List SplitData) → Goes f.ordered s.holds given f.splits ss → GoesFar f0.ordered s0.holds (r.got ++ one_part given) f0.splits ss
  goes_first given ss g =
      let told : Goes f.ordered s0.holds given f.splits ss = subst (λ (o : Option Store). Goes f.ordered o given f.splits ss) (r.moves).holds g in
      let placed : Goes f0.ordered s0.holds given f.splits ss = subst (λ (o : Bool). Goes o s0.holds given f.splits ss) r.ordered told in
      far_then f0.ordered s0.holds r.got given f0.splits f.splits ss r.goes placed

  -- once more an answer was put off
  pub read_waits : (t : SourceState) (g : FeedData) → SourceMoves (MayFeed s.holds f) s t → SameFeed f g → PutsOff s t f g → HasRead s0 f0 t g values
  read_waits t g m same k = record {
    ordered = same.ordered ∙ r.ordered;
    ended = (k.goes_on).after ∙ sym (k.goes_on).before ∙ r.ended;
    moves = moves_first t m;
    spent = λ h. ap is_spent k.seat ∙ r.spent h;
    got = r.got ++ one_part [];
    goes = goes_first [] g.splits k.goes;
    seat = λ alone.
        let claims : Claims f0.seat g.seat (joined r.got) values = subst (λ (o : Option SeatState). Claims f0.seat o (joined r.got) values) (sym k.seat) (r.seat alone) in
        subst (λ (xs : List Marked). Claims f0.seat g.seat xs values) (sym (joined_more r.got [] ∙ append-nil (joined r.got))) claims;
  }

  -- an array was given
  pub read_array : (t : SourceState) (g : FeedData) (a : ArrayData) → SourceMoves (MayFeed s.holds f) s t → SameFeed f g → GoesOn f g → GivesRows s.holds f g a → HasRead s0 f0 t g (values ++ map marked a.items)
  read_array t g a m same on k =
      let array = k.array in
      let claim = k.claims in
      let xs : List Marked = map marked array.items in
      let long : length xs ≡ length array.items = length-map array.items marked in
      let granted : Grants f.seat (length xs) k.rows g.seat = subst (λ (n : ℕ). Grants f.seat n k.rows g.seat) (sym long) claim.granted in
      let given : take k.rows xs ≡ map marked a.items = take-map marked k.rows array.items ∙ sym (ap (λ (b : ArrayData). map marked b.items) k.is) in
      let before : length (joined r.got) + reach f.splits ≤ reach f0.splits = (r.goes).reach in
      let now : length xs + reach g.splits ≤ reach f.splits = (claim.goes).reach in
      let few : length (joined r.got) + length xs ≤ reach f0.splits = omega (arith, before, now) in
      record {
        ordered = same.ordered ∙ r.ordered;
        ended = on.after ∙ sym on.before ∙ r.ended;
        moves = moves_first t m;
        spent = λ h. spent_on f.seat g.seat (length array.items) k.rows claim.granted (r.spent h);
        got = r.got ++ one_part xs;
        goes = goes_first xs g.splits claim.goes;
        seat = λ alone.
            let claims : Claims f0.seat g.seat (joined r.got ++ xs) (values ++ take k.rows xs) = claims_more f0.seat f.seat g.seat (joined r.got) values xs k.rows (reach f0.splits) alone few (r.seat alone) granted in
            subst (λ (z : List Marked × List Marked). Claims f0.seat g.seat z.0 z.1) (λ i. (sym (joined_more r.got xs) i, ap (λ (ys : List Marked). values ++ ys) given i)) claims;
      }

module _ (s0 : SourceState) (f0 : FeedData) (s : SourceState) (f : FeedData) (old : List ArrayData) (r : HasRead s0 f0 s f (values_given old)) where
  -- a poll that goes on
  pub read_more : (t : SourceState) (g : FeedData) (new : List ArrayData) → SourceMoves (MayFeed s.holds f) s t → SameFeed f g → AddsNone s t f g old new ⊎ AddsArray s f g old new → HasRead s0 f0 t g (values_given new)
  read_more t g new m same (inl k) = subst (λ (ls : List ArrayData). HasRead s0 f0 t g (values_given ls)) (sym k.same) (read_waits s0 f0 s f (values_given old) r t g m same k.waits)
  read_more t g new m same (inr k) =
      subst (λ (xs : List Marked). HasRead s0 f0 t g xs) (sym (ap values_given k.added ∙ given_more old k.array)) (read_array s0 f0 s f (values_given old) r t g k.array m same k.goes_on k.gives)

-- it is nearer to the end
pub nearer : (s t : SourceState) (f g : FeedData) (old new : List ArrayData) → t.turns ≤ s.turns → AddsNone s t f g old new ⊎ AddsArray s f g old new → t.turns + reach g.splits < s.turns + reach f.splits
nearer s t f g old new m (inl k) =
    let waits = (k.waits).turns in
    let rows = ((k.waits).goes).reach in
    omega (arith, waits, rows)
nearer s t f g old new m (inr k) =
    let claim = (k.gives).claims in
    let rows = (claim.goes).reach in
    let long = length-map (((k.gives).array).items) marked in
    let some = claim.some in
    omega (arith, m, rows, long, some)
