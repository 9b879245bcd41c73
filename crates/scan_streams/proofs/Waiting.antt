-- Polls of a stream after answers that its source put off.
use Rattle.std.proofs.Common.{◌≡◌, ℕ, ◌≤◌, List, [], length, map, Bool, Option, Result, Ok, Err, inl, inr, refl, sym, ap, ◌∙◌, subst, arith}
use Rattle.scan_segments.specs.Faults.{Rose}
use Rattle.scan_segments.specs.Source.{SourceState, Store}
use Rattle.scan_values.specs.Arrays.{ArrayData}
use Rattle.scan_values.specs.Marked.{Marked}
use Rattle.scan_values.specs.Val.{marked}
use Rattle.scan_limit.specs.Seats.{SeatState}
use Rattle.scan_streams.specs.Feeds.{FeedData}
use Rattle.scan_streams.specs.Grants.{Grants, is_spent}
use Rattle.scan_streams.specs.Looks.{Halts, MayAsk}
use Rattle.scan_streams.specs.Sources.{SourceMoves}
use Rattle.scan_streams.specs.Splits.{SplitData, Goes, spoils_id, wants_id}
use Rattle.scan_streams.specs.Streams.{StreamData, MayFeed, SameFeed, PutsOff, ClaimsRows, GivesRows, NothingLeft, Ends, SeatAfter, HaltsAll, MapsRows, Answers}
use Rattle.scan_streams.specs.declared.fault.Halt.{Halt}
use Rattle.scan_streams.specs.declared.fault.Halt.TheVariants as halt
use Rattle.scan_streams.specs.declared.fault.StreamFault.TheVariants as fault
use Rattle.scan_streams.specs.declared.fault.StreamPoll.{StreamPoll}
use Rattle.scan_streams.specs.declared.fault.StreamPoll.TheVariants as poll
use Rattle.scan_streams.proofs.Asking.{moves_self, moves_then, moves_weaker, was_before}
use Rattle.scan_streams.proofs.Going.{goes_refl, goes_then}

-- what is read, and its source, after answers that were put off
pub record Waited (s u : SourceState) (a b : FeedData) : Type 0 where
  pub same : SameFeed a b
  pub ended : b.ended ≡ a.ended
  pub width : b.width ≡ a.width
  pub seat : b.seat ≡ a.seat
  pub goes : Goes a.ordered s.holds [] a.splits b.splits
  pub source : SourceMoves (MayFeed s.holds a) s u

pub waited_none : (s : SourceState) (a : FeedData) → Waited s s a a
waited_none s a = record {
  same = record { dtype = refl; ordered = refl };
  ended = refl;
  width = refl;
  seat = refl;
  goes = goes_refl s.holds a.ordered a.splits;
  source = moves_self (MayFeed s.holds a) s;
}

rose : (a b m : ℕ) → a ≤ b → Rose b m → Rose a m
rose a b m le h = omega arith

module _ (s u : SourceState) (a b : FeedData) (w : Waited s u a b) where
  -- the splits that are left, from the first
  goes_before : (given : List Marked) (ss : List SplitData) → Goes b.ordered u.holds given b.splits ss → Goes a.ordered s.holds given a.splits ss
  goes_before given ss g =
      let told : Goes b.ordered s.holds given b.splits ss = subst (λ (o : Option Store). Goes b.ordered o given b.splits ss) w.source.holds g in
      let placed : Goes a.ordered s.holds given b.splits ss = subst (λ (o : Bool). Goes o s.holds given b.splits ss) w.same.ordered told in
      goes_then s.holds a.ordered given a.splits b.splits ss w.goes placed

  pub may_before : (id : ℕ) → MayFeed u.holds b id → MayFeed s.holds a id
  may_before id h = (sym w.ended ∙ h.0, ap is_spent (sym w.seat) ∙ h.1, asks h.2)
    where
      asks : MayAsk u.holds b.splits id → MayAsk s.holds a.splits id
      asks k = (w.goes.may id k.0, λ store e hold. w.goes.comes (wants_id id) store e hold (k.1 store (w.source.holds ∙ e) (w.goes.stay store e hold)))

  pub moves_before : (t : SourceState) → SourceMoves (MayFeed u.holds b) u t → SourceMoves (MayFeed s.holds a) s t
  moves_before t m = moves_then (MayFeed s.holds a) s u t w.source (moves_weaker (MayFeed u.holds b) (MayFeed s.holds a) u t may_before m)

  pub same_before : (c : FeedData) → SameFeed b c → SameFeed a c
  same_before c h = record { dtype = h.dtype ∙ w.same.dtype; ordered = h.ordered ∙ w.same.ordered }

  halts_before : (t : SourceState) (h : Halt) → Halts u t b.splits h → Halts s t a.splits h
  halts_before t (halt.Source id) k = (rose s.faults u.faults t.faults w.source.faults k.0, sym w.source.can_fail ∙ k.1, was_before (MayFeed s.holds a) id s u t w.source k.2)
  halts_before t (halt.Corrupt id) k = λ store e hold. w.goes.comes (spoils_id id) store e hold (k store (w.source.holds ∙ e) (w.goes.stay store e hold))
  halts_before t halt.Overflow k = λ store e hold. sym (w.goes.overflow store e hold) ∙ k store (w.source.holds ∙ e) (w.goes.stay store e hold)
  halts_before t halt.NoMemory k = tt

  claims_before : (c : FeedData) (array : ArrayData) (rows : ℕ) → ClaimsRows u.holds b c array rows → ClaimsRows s.holds a c array rows
  claims_before c array rows k = record {
    goes = goes_before (map marked array.items) c.splits k.goes;
    dtype = k.dtype ∙ w.same.dtype;
    some = k.some;
    granted = subst (λ (o : Option SeatState). Grants o (length array.items) rows c.seat) w.seat k.granted;
  }

  gives_before : (c : FeedData) (x : ArrayData) → GivesRows u.holds b c x → GivesRows s.holds a c x
  gives_before c x k = record { array = k.array; rows = k.rows; claims = claims_before c k.array k.rows k.claims; some = k.some; is = k.is }

  ends_before : (c : FeedData) → Ends u.holds b c → Ends s.holds a c
  ends_before c (inl k) = inl (k.0 ∙ w.seat, left k.1)
    where
      left : NothingLeft u.holds b → NothingLeft s.holds a
      left (inl e) = inl (sym w.ended ∙ e)
      left (inr (inl e)) = inr (inl (ap is_spent (sym w.seat) ∙ e))
      left (inr (inr g)) = inr (inr (goes_before [] [] g))
  ends_before c (inr k) = inr (k.0, claims_before c k.0 0 k.1, k.2)

  seat_before : (c : FeedData) (h : Halt) → SeatAfter u.holds b c h → SeatAfter s.holds a c h
  seat_before c (halt.Source id) k = k ∙ w.seat
  seat_before c (halt.Corrupt id) k = k ∙ w.seat
  seat_before c halt.Overflow k = k ∙ w.seat
  seat_before c halt.NoMemory (inl k) = inl (k ∙ w.seat)
  seat_before c halt.NoMemory (inr k) = inr (k.0, k.1, claims_before c k.0 k.1 k.2)

  halts_all : (t : SourceState) (c : FeedData) (h : Halt) → HaltsAll u t b c h → HaltsAll s t a c h
  halts_all t c h k = record {
    before = sym w.ended ∙ k.before;
    ended = k.ended;
    halts = halts_before t h k.halts;
    seat = seat_before c h k.seat;
  }

  puts_off : (t : SourceState) (c : FeedData) → PutsOff u t b c → PutsOff s t a c
  puts_off t c k = record {
    goes_on = record { before = sym w.ended ∙ k.goes_on.before; after = k.goes_on.after; width = k.goes_on.width ∙ w.width };
    turns = let m = w.source.turns in let n = k.turns in omega arith;
    goes = goes_before [] c.splits k.goes;
    seat = k.seat ∙ w.seat;
  }

  -- an answer that is put off once more
  pub waited_more : (t : SourceState) (c : FeedData) → PutsOff u t b c → SameFeed b c → SourceMoves (MayFeed u.holds b) u t → Waited s t a c
  waited_more t c k same m = record {
    same = same_before c same;
    ended = k.goes_on.after ∙ sym (sym w.ended ∙ k.goes_on.before);
    width = k.goes_on.width ∙ w.width;
    seat = k.seat ∙ w.seat;
    goes = goes_before [] c.splits k.goes;
    source = moves_before t m;
  }

module _ {M A F : Type 0} (answers : M → ArrayData → Result A F → Type 0) (s u t : SourceState) (a b c : StreamData M) (w : Waited s u a.feed b.feed) (e : b.step ≡ a.step) where
  maps_before : (r : Result A F) → MapsRows (answers b.step) u.holds b c r → MapsRows (answers a.step) s.holds a c r
  maps_before r k = record {
    rows = k.rows;
    gives = gives_before s u a.feed b.feed w c.feed k.rows k.gives;
    answer = subst (λ (m : M). answers m k.rows r) e k.answer;
  }

  -- the answer of the poll after them, from the first
  pub answers_before : (p : StreamPoll A F) → Answers answers u t b c p → Answers answers s t a c p
  answers_before poll.Pending k = puts_off s u a.feed b.feed w t c.feed k
  answers_before (poll.Item x) k = (record { before = sym w.ended ∙ k.0.before; after = k.0.after; width = k.0.width ∙ w.width }, maps_before (Ok x) k.1)
  answers_before poll.End k = (k.0, ends_before s u a.feed b.feed w c.feed k.1)
  answers_before (poll.Fault (fault.Map f)) k = (sym w.ended ∙ k.0, k.1, maps_before (Err f) k.2)
  answers_before (poll.Fault (fault.Setup f)) k = k
  answers_before (poll.Fault (fault.Source id)) k = halts_all s u a.feed b.feed w t c.feed (halt.Source id) k
  answers_before (poll.Fault (fault.Corrupt id)) k = halts_all s u a.feed b.feed w t c.feed (halt.Corrupt id) k
  answers_before (poll.Fault fault.Overflow) k = halts_all s u a.feed b.feed w t c.feed halt.Overflow k
  answers_before (poll.Fault fault.NoMemory) k = halts_all s u a.feed b.feed w t c.feed halt.NoMemory k
