-- Polls of a scan of many files, one after the other.
use Rattle.std.proofs.Common.{◌≡◌, ℕ, zero, suc, false, List, [], ◌∷◌, Some, inl, inr, sym, ap, subst, ◌∙◌, arith}
use Rattle.std.specs.Prelude.{◌⊎◌}
use Rattle.std.specs.List.{slice_get}
use Rattle.scan_opener.specs.Opener.{OpenerState}
use Rattle.scan_multi_sources.specs.Children.{is_open}
use Rattle.scan_multi_sources.specs.Files.{slot_data}
use Rattle.scan_multi_sources.specs.MultiScans.{Finds, MultiScan}
use Rattle.scan_multi_sources.specs.Polls.{AnswersBy, AnswersOne, Goes, IsPolled, LooksAt, NoneBefore, Steps}
use Rattle.scan_multi_sources.specs.Sources.{MultiData}
use Rattle.scan_multi_sources.specs.declared.fault.MultiFault.{MultiFault}
use Rattle.scan_multi_sources.specs.declared.scan.PartitionPoll.{PartitionPoll}
use Rattle.scan_multi_sources.specs.declared.scan.PartitionPoll.TheVariants as poll
use Rattle.scan_multi_sources.proofs.Before.{finds_looks}
use Rattle.scan_multi_sources.proofs.Finding.{some_within}
use Rattle.scan_polls.specs.Due.{NoneOpen, OpenFirst, Polls, due, fault_places, numbers_given, numbers_in, places_answered, places_in}
use Rattle.scan_polls.specs.Laws.{AnswersOpen}
use Rattle.scan_polls.proofs.Firsts.{first_same}
use Rattle.scan_polls.proofs.Stepping.{IsGone, Looked, Moved, gone, gone_none, looked_of, moved_answers, moved_begun, moved_looked, moved_none, moved_passes, moved_then, slot_of}

module _ {O : Type 0} (opener : O → OpenerState) where
  steps_move : (s new : MultiScan O) → Steps opener s new → Moved s new [] []
  steps_move s new (inl h) = moved_begun s new h
  steps_move s new (inr h) =
      let f = h.finds in
      moved_then s h.looked new [] [] [] [] (moved_looked s h.looked (looked_of opener s h.looked h.at h.place h.found f))
      (moved_passes h.looked h.at h.place f.stage (slot_of opener s h.looked h.at h.place h.found f) new h.found h.passes)

  goes_move : (n : ℕ) (s new : MultiScan O) → Goes opener n s new → Moved s new [] []
  goes_move zero s new h = subst (λ (z : MultiScan O). Moved s z [] []) (sym h) (moved_none s)
  goes_move (suc n) s new h = moved_then s h.0 new [] [] [] [] (goes_move n s h.0 h.1) (steps_move h.0 new h.2)

  one_moves : (s new : MultiScan O) (r : PartitionPoll) → AnswersOne opener s new r → Moved s new (places_in r) (numbers_in r)
  one_moves s new r h =
      let f = h.finds in
      moved_then s h.looked new [] [] (places_in r) (numbers_in r) (moved_looked s h.looked (looked_of opener s h.looked h.at h.place h.found f))
      (moved_answers h.looked h.at h.place f.stage (slot_of opener s h.looked h.at h.place h.found f) new h.found r h.answers)

  same_moves : (s new : MultiScan O) → new ≡ s → Moved s new [] []
  same_moves s new e = subst (λ (z : MultiScan O). Moved s z [] []) (sym e) (moved_none s)

  answer_moves : (s new : MultiScan O) (r : PartitionPoll) → AnswersBy opener s new r → Moved s new (places_in r) (numbers_in r)
  answer_moves s new poll.Pending h = same_moves s new h
  answer_moves s new (poll.Partition p) h = one_moves s new (poll.Partition p) h
  answer_moves s new poll.End h = same_moves s new h.2
  answer_moves s new (poll.Fault f) (inl h) = subst (λ (g : MultiFault). Moved s new (places_in (poll.Fault g)) (numbers_in (poll.Fault g))) (sym h.0) (same_moves s new h.1)
  answer_moves s new (poll.Fault f) (inr h) = one_moves s new (poll.Fault f) h

  pub poll_moves : (s new : MultiScan O) (r : PartitionPoll) → IsPolled opener s new r → Moved s new (places_in r) (numbers_in r)
  poll_moves s new r h = moved_then s h.then new [] [] (places_in r) (numbers_in r) (goes_move h.steps s h.then h.goes) (answer_moves h.then new r h.answer)

  pub polls_move : (rs : List PartitionPoll) (old new : MultiScan O) → Polls opener rs old new → Moved old new (places_answered rs) (numbers_given rs)
  polls_move [] old new h = same_moves old new h
  polls_move (r ∷ rs) old new h = moved_then old h.0 new (places_in r) (numbers_in r) (places_answered rs) (numbers_given rs) (poll_moves old h.0 r h.1) (polls_move rs h.0 new h.2)

  -- ---- a poll of a scan whose opened files stand first
  one_none : (s new : MultiScan O) (r : PartitionPoll) → OpenFirst s → AnswersOne opener s new r → (k : ℕ) → places_in r ≡ k ∷ [] → is_open (new.source).children k ≡ false → NoneOpen new
  one_none s new r first h k is closed = go (gone looked h.at h.place f.stage slot new h.found r h.answers)
    where
      looked : MultiScan O
      looked = h.looked

      f : Finds opener s looked h.at h.place h.found
      f = h.finds

      slot : slice_get looked.window h.at ≡ Some (slot_data h.place f.stage)
      slot = slot_of opener s looked h.at h.place h.found f

      l : Looked s looked
      l = looked_of opener s looked h.at h.place h.found f

      here : LooksAt s h.at
      here = record { within = let l = some_within s.window h.at (slot_data h.place f.stage) f.slot in omega (arith, l); before = h.before }

      before : NoneBefore looked h.at
      before o = (finds_looks opener f.stage s looked h.place h.found f.finds h.at here).before o

      opened : OpenFirst looked
      opened = first_same (is_open (looked.source).children) (is_open (s.source).children) l.opens (due looked) ((moved_looked s looked l).first first)

      go : (places_in r ≡ []) ⊎ IsGone looked h.at h.place f.stage slot new (places_in r) → NoneOpen new
      go (inl e) = let bad : k ∷ [] ≡ [] = sym is ∙ e in absurd cc
      go (inr g) =
          let there : k ∷ [] ≡ h.place ∷ [] = sym is ∙ g.place in
          let same : k ≡ h.place = cc in
          gone_none looked h.at h.place f.stage slot new (places_in r) g before opened
          (ap (λ (z : MultiData O). is_open z.children h.place) (sym g.source) ∙ ap (λ j. is_open (new.source).children j) (sym same) ∙ closed)

  answer_none : (s new : MultiScan O) (r : PartitionPoll) → OpenFirst s → AnswersBy opener s new r → (k : ℕ) → places_in r ≡ k ∷ [] → is_open (new.source).children k ≡ false → NoneOpen new
  answer_none s new poll.Pending first h k is closed = absurd cc
  answer_none s new (poll.Partition p) first h k is closed = one_none s new (poll.Partition p) first h k is closed
  answer_none s new poll.End first h k is closed = absurd cc
  answer_none s new (poll.Fault f) first (inl h) k is closed = let bad : [] ≡ k ∷ [] = sym (ap fault_places h.0) ∙ is in absurd cc
  answer_none s new (poll.Fault f) first (inr h) k is closed = one_none s new (poll.Fault f) first h k is closed

  pub opened_come : (r : PartitionPoll) (s new : MultiScan O) → IsPolled opener s new r → OpenFirst s → AnswersOpen new r
  opened_come r s new h f =
      let m = goes_move h.steps s h.then h.goes in
      let a = answer_moves h.then new r h.answer in
      let then_first : OpenFirst h.then = first_same (is_open ((h.then).source).children) (is_open (s.source).children) m.opens (due h.then) (m.first f) in
      record {
        first = first_same (is_open (new.source).children) (is_open ((h.then).source).children) a.opens (due new) (a.first then_first);
        none = λ k is closed. answer_none h.then new r then_first h.answer k is closed;
      }
