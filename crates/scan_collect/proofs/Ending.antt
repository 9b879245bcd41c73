-- What was read of a stream at its end, and why reading stops before it.
use Rattle.std.proofs.Common.{◌≡◌, ◌≤◌, ◌+◌, ℕ, false, List, [], ◌++◌, length, Some, inl, inr, sym, ap, ◌∙◌, append-nil, arith}
use Rattle.scan_values.specs.Marked.{Marked}
use Rattle.scan_segments.specs.Faults.{Rose}
use Rattle.scan_segments.specs.Source.{SourceState, Store}
use Rattle.scan_streams.specs.Feeds.{FeedData}
use Rattle.scan_streams.specs.Splits.{SplitData, Goes, parts_left, clean_left, spoils_id}
use Rattle.scan_streams.specs.Streams.{Ends, NothingLeft}
use Rattle.scan_streams.specs.declared.fault.StreamFault.{StreamFault}
use Rattle.scan_streams.specs.declared.fault.StreamFault.TheVariants as fault
use Rattle.scan_core.specs.Streaming.{first_of}
use Rattle.scan_collect.specs.Gathers.{Breaks}
use Rattle.scan_collect.specs.Reads.{AreRead, IsFresh, StopsBy, joined, limit_in}
use Rattle.scan_collect.proofs.Claiming.{AreEnough, Claims, claims_first, enough_first, enough_full, none_enough, spent_enough}
use Rattle.scan_collect.proofs.Joining.{joined_both}
use Rattle.scan_collect.proofs.Running.{HasRead, goes_first}

rose_before : (a b m : ℕ) → a ≤ b → Rose b m → Rose a m
rose_before a b m le h = omega arith

rose_later : (a m n : ℕ) → m ≤ n → Rose a m → Rose a n
rose_later a m n le h = omega arith

module _ (s0 : SourceState) (f0 : FeedData) (s : SourceState) (f : FeedData) (values : List Marked) (r : HasRead s0 f0 s f values) (store : Store) (told : s0.holds ≡ Some store) (fresh : IsFresh store f0) where
  claims : Claims f0.seat f.seat (joined r.got) values
  claims = r.seat fresh.alone

  -- as many as the limit
  read_enough : AreEnough f0.seat (joined r.got) → AreRead f0.ordered (limit_in f0.seat) store f0.splits values
  read_enough h = record {
    parts = r.got ++ parts_left store f.splits;
    all = (r.goes).items store told fresh.holds;
    first = enough_first f0.seat f.seat (joined r.got) values (joined (parts_left store f.splits)) claims h ∙ ap (first_of (limit_in f0.seat)) (sym (joined_both r.got (parts_left store f.splits)));
    sound = r.got ++ clean_left store f.splits;
    clean = (r.goes).clean store told fresh.holds;
    sound_first = enough_first f0.seat f.seat (joined r.got) values (joined (clean_left store f.splits)) claims h ∙ ap (first_of (limit_in f0.seat)) (sym (joined_both r.got (clean_left store f.splits)));
    whole = inl (enough_full f0.seat f.seat (joined r.got) values claims h);
  }

  -- all
  read_whole : Goes f.ordered s.holds [] f.splits [] → AreRead f0.ordered (limit_in f0.seat) store f0.splits values
  read_whole g =
      let far = goes_first s0 f0 s f values r [] [] g in
      let same : joined ((r.got ++ []) ++ []) ≡ joined r.got = ap joined (append-nil (r.got ++ []) ∙ append-nil r.got) in
      let first : values ≡ first_of (limit_in f0.seat) (joined ((r.got ++ []) ++ [])) = claims_first f0.seat f.seat (joined r.got) values claims ∙ ap (first_of (limit_in f0.seat)) (sym same) in
      record {
        parts = (r.got ++ []) ++ [];
        all = far.items store told fresh.holds;
        first = first;
        sound = (r.got ++ []) ++ [];
        clean = far.clean store told fresh.holds;
        sound_first = first;
        whole = inr (sym (far.damage store told fresh.holds), sym (far.overflow store told fresh.holds));
      }

  -- at the end
  pub read_ended : (g : FeedData) → Ends s.holds f g → AreRead f0.ordered (limit_in f0.seat) store f0.splits values
  read_ended g (inl h) = left h.1
    where
      left : NothingLeft s.holds f → AreRead f0.ordered (limit_in f0.seat) store f0.splits values
      left (inl e) = let b : f.ended ≡ false = r.ended ∙ fresh.begun in absurd cc
      left (inr (inl e)) = read_enough (spent_enough f0.seat f.seat (joined r.got) values claims e)
      left (inr (inr k)) = read_whole k
  read_ended g (inr h) = read_enough (none_enough f0.seat f.seat g.seat (joined r.got) values (length (h.0).items) (h.1).some claims (h.1).granted)

module _ {F : Type 0} (s0 : SourceState) (f0 : FeedData) (s : SourceState) (f : FeedData) (values : List Marked) (r : HasRead s0 f0 s f values) where
  -- why it stops, from the start
  pub stops_first : (t : SourceState) (x : StreamFault F) → Breaks s t f x → StopsBy s0 t f0.splits x
  stops_first t (fault.Source id) k = (rose_before s0.faults s.faults t.faults (r.moves).faults k.0, sym (r.moves).can_fail ∙ k.1)
  stops_first t (fault.Corrupt id) k = λ store e hold. (r.goes).comes (spoils_id id) store e hold (k store ((r.moves).holds ∙ e) ((r.goes).stay store e hold))
  stops_first t (fault.Map m) k = k
  stops_first t (fault.Setup m) k = k
  stops_first t fault.NoMemory k = tt
  stops_first t fault.Overflow k = λ store e hold. sym ((r.goes).overflow store e hold) ∙ k store ((r.moves).holds ∙ e) ((r.goes).stay store e hold)

-- also after what is live was dropped
pub stops_later : {F : Type 0} (s t u : SourceState) (splits : List SplitData) (x : StreamFault F) → t.faults ≤ u.faults → StopsBy s t splits x → StopsBy s u splits x
stops_later s t u splits (fault.Source id) le k = (rose_later s.faults t.faults u.faults le k.0, k.1)
stops_later s t u splits (fault.Corrupt id) le k = k
stops_later s t u splits (fault.Map m) le k = k
stops_later s t u splits (fault.Setup m) le k = k
stops_later s t u splits fault.NoMemory le k = tt
stops_later s t u splits fault.Overflow le k = k
