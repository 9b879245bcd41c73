-- What is read of splits, and what is granted of it.
use Rattle.std.proofs.Common.{◌≡◌, ℕ, ◌<◌, ◌≤◌, List, [], ◌∷◌, length, map, Bool, true, false, ◌||◌, cond, eqb, Option, None, Some, is_some, inl, inr, refl, sym, ap, ◌∙◌, subst, arith}
use Rattle.scan_segments.proofs.LiveSets.{at-id}
use Rattle.scan_segments.specs.Source.{SourceState, Store}
use Rattle.scan_values.specs.Arrays.{ArrayData}
use Rattle.scan_values.specs.DataType.{DataType}
use Rattle.scan_values.specs.Marked.{Marked}
use Rattle.scan_values.specs.Selections.{is_among}
use Rattle.scan_values.specs.Val.{marked}
use Rattle.scan_limit.specs.Seats.{SeatState}
use Rattle.scan_streams.specs.Desks.{Waiters, waiters_at, Agree, live_ids}
use Rattle.scan_streams.specs.Feeds.{FeedData, IsFeed}
use Rattle.scan_streams.specs.Grants.{Grants, HasRoom}
use Rattle.scan_streams.specs.Looks.{Halts}
use Rattle.scan_streams.specs.Readings.{Standing, splits_of}
use Rattle.scan_streams.specs.Sources.{SourceMoves, NoId}
use Rattle.scan_streams.specs.Splits.{SplitData, Goes, reach}
use Rattle.scan_streams.specs.Streams.{LiveAs, HasEnded, ClaimsRows, SeatAfter, HaltsAll, Feeds, Granted, FeedsOf}
use Rattle.scan_streams.specs.declared.fault.Halt.{Halt}
use Rattle.scan_streams.specs.declared.fault.Halt.TheVariants as halt
use Rattle.scan_streams.specs.declared.feed.FeedPoll.{FeedPoll}
use Rattle.scan_streams.specs.declared.feed.FeedPoll.TheVariants as feed
use Rattle.scan_streams.specs.declared.reading.Reading.{Reading}
use Rattle.scan_streams.proofs.Asking.{was_later}

some_of : (b : Bool) (x : List ℕ) (o : Option (List ℕ)) → (b || is_some o) ≡ is_some (cond b (Some x) o)
some_of true x o = refl
some_of false x o = refl

pub among_live : (d : Waiters) (id : ℕ) → is_among (live_ids d) id ≡ is_some (waiters_at d id)
among_live [] id = refl
among_live (e ∷ d) id =
    ap (λ b. eqb e.0 id || b) (among_live d id) ∙ some_of (eqb e.0 id) e.1 (waiters_at d id) ∙ sym (ap (λ b. is_some (cond b (Some e.1) (waiters_at d id))) (at-id id e.0))

-- the live requests of a source, by the desk and by the ids
pub agree_of : (live : ℕ → Bool) (d : Waiters) → LiveAs live (live_ids d) → Agree live d
agree_of live d h id = h id ∙ among_live d id

pub live_of : (live : ℕ → Bool) (d : Waiters) → Agree live d → LiveAs live (live_ids d)
live_of live d h id = h id ∙ sym (among_live d id)

-- room for fewer rows
pub room_less : (seat : Option SeatState) (m n : ℕ) → n ≤ m → HasRoom seat m → HasRoom seat n
room_less None m n le h = tt
room_less (Some s) m n le h = omega arith

-- a feed that has been read on
pub feed_goes : (ordered : Bool) (holds : Option Store) (given : List Marked) (d : DataType) (r now : Reading) (seat : Option SeatState) (ended : Bool) → ended ≡ false → IsFeed d r seat ended → Standing now → Goes ordered holds given (splits_of r) (splits_of now) → IsFeed d now seat ended
feed_goes ordered holds given d r now seat ended e f s g = record {
  stands = λ _. s;
  dtype = λ k. g.dtype d (f.dtype k);
  room = λ k. let le : reach (splits_of now) ≤ reach (splits_of r) = let m = g.reach in omega arith in room_less seat (reach (splits_of r)) (reach (splits_of now)) le (f.room k);
  idle = λ k. let bad : true ≡ false = sym k ∙ e in absurd cc;
}

rose : (a b c m : ℕ) → m ≤ b → b ≤ c → m ≤ c
rose a b c m h k = omega arith

-- what halted it holds of the source as it is later
pub halts_later : (s t u : SourceState) (splits : List SplitData) (h : Halt) → SourceMoves NoId t u → Halts s t splits h → Halts s u splits h
halts_later s t u splits (halt.Source id) m h = (rose s.faults t.faults u.faults _ h.0 m.faults, h.1, was_later NoId id s t u m h.2)
halts_later s t u splits (halt.Corrupt id) m h = h
halts_later s t u splits halt.Overflow m h = h
halts_later s t u splits halt.NoMemory m h = h

pub seat_kept : (holds : Option Store) (old new : FeedData) (h : Halt) → new.seat ≡ old.seat → SeatAfter holds old new h
seat_kept holds old new (halt.Source id) e = e
seat_kept holds old new (halt.Corrupt id) e = e
seat_kept holds old new halt.Overflow e = e
seat_kept holds old new halt.NoMemory e = inl e

-- a feed whose splits are not read any further
pub halted : (s t u : SourceState) (old new : FeedData) (h : Halt) → old.ended ≡ false → new.ended ≡ true → new.seat ≡ old.seat → new.live ≡ [] → SourceMoves NoId t u → Halts s t old.splits h → HaltsAll s u old new h
halted s t u old new h on over seat idle m halts = record {
  before = on;
  ended = record { ended = over; idle = idle };
  halts = halts_later s t u old.splits h m halts;
  seat = seat_kept s.holds old new h seat;
}

-- what is given of an array that was read
pub given_feeds : (s t : SourceState) (old mid new : FeedData) (a : ArrayData) (r : FeedPoll) → old.ended ≡ false → mid.seat ≡ old.seat → mid.width ≡ old.width → Goes old.ordered s.holds (map marked a.items) old.splits mid.splits → a.dtype ≡ old.dtype → 0 < length a.items → FeedsOf a mid new r → Feeds s t old new r
given_feeds s t old mid new a r on seat width g d some h = go r h
  where
    claims : (rows : ℕ) → Granted a rows mid new → ClaimsRows s.holds old new a rows
    claims rows k = record {
      goes = subst (λ (ss : List SplitData). Goes old.ordered s.holds (map marked a.items) old.splits ss) (sym k.splits) g;
      dtype = d;
      some = some;
      granted = subst (λ (o : Option SeatState). Grants o (length a.items) rows new.seat) seat k.granted;
    }

    halts : (q : Halt) → q ≡ halt.NoMemory → (rows : ℕ) → Granted a rows mid new → HasEnded new → HaltsAll s t old new q
    halts q e rows k over = subst (λ (x : Halt). HaltsAll s t old new x) (sym e) (record { before = on; ended = over; halts = tt; seat = inr (a, rows, claims rows k) })

    go : (q : FeedPoll) → FeedsOf a mid new q → Feeds s t old new q
    go feed.Pending k = absurd k
    go (feed.Array x) k = (record { before = on; after = k.2; width = (k.1).width ∙ width }, record { array = a; rows = k.0; claims = claims k.0 k.1; some = k.3; is = k.4 })
    go feed.End k = (k.1, inr (a, claims 0 k.0, k.2))
    go (feed.Halt q) k = halts q k.3 k.0 k.1 k.2
