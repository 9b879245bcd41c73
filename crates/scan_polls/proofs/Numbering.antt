-- By what partitions are numbered.
use Rattle.std.proofs.Common.{◌≡◌, ◌+◌, ℕ, zero, suc, Bool, true, false, List, [], ◌∷◌, ◌++◌, length, inl, inr, refl, sym, ap, subst, ◌∙◌, append-nil, length-append, arith}
use Rattle.std.specs.List.{list_any}
use Rattle.scan_layout.specs.Layout.{Layout}
use Rattle.scan_expr.specs.declared.request.ScanRequest.{ScanRequest}
use Rattle.scan_opener.specs.Opener.{OpenerState}
use Rattle.scan_sources.specs.declared.request.BoundScanRequest.{BoundScanRequest}
use Rattle.scan_multi_sources.specs.Files.{StageData}
use Rattle.scan_multi_sources.specs.Files as file
use Rattle.scan_multi_sources.specs.MultiScans.{Finds, FindsAt, MultiScan, Passes, PassesOpened, is_turn}
use Rattle.scan_multi_sources.specs.Numbers.{is_given}
use Rattle.scan_multi_sources.specs.Opens as asks
use Rattle.scan_multi_sources.specs.Opens.{Found}
use Rattle.scan_multi_sources.specs.Partitions.{PartitionData}
use Rattle.scan_multi_sources.specs.Polls.{Answers, AnswersBy, AnswersOne, FailsOpened, GivesOpened, Goes, IsPolled, Steps}
use Rattle.scan_multi_sources.specs.Sources.{MultiData}
use Rattle.scan_multi_sources.specs.Starts.{StartsMulti, numbers_of}
use Rattle.scan_multi_sources.specs.declared.fault.MultiFault.{MultiFault}
use Rattle.scan_multi_sources.specs.declared.fault.MultiFault.TheVariants as fault
use Rattle.scan_multi_sources.specs.declared.scan.PartitionPoll.{PartitionPoll}
use Rattle.scan_multi_sources.specs.declared.scan.PartitionPoll.TheVariants as poll
use Rattle.scan_polls.specs.Due.{Polls, RiseUpTo, fault_places, places_answered, places_in}
use Rattle.scan_polls.specs.Laws.{IsNumbered}
use Rattle.scan_polls.proofs.Firsts.{both_false, or_false}
use Rattle.scan_polls.proofs.Ordering.{rise_then}

-- These places were answered, and files of these numbers passed over.
record Counted {O : Type 0} (s new : MultiScan O) (places : List ℕ) : Type 0 where
  pub passed : List ℕ
  pub less : RiseUpTo s.delivered passed new.delivered
  pub outside : list_any (is_given s.numbers) passed ≡ false
  pub count : new.delivered ≡ s.delivered + length places + length passed
  pub same : new.numbers ≡ s.numbers

none_of_both : (p : ℕ → Bool) (xs ys : List ℕ) → list_any p xs ≡ false → list_any p ys ≡ false → list_any p (xs ++ ys) ≡ false
none_of_both p [] ys h k = k
none_of_both p (x ∷ xs) ys h k =
    let both = or_false (p x) (list_any p xs) h in
    both_false (p x) (list_any p (xs ++ ys)) both.0 (none_of_both p xs ys both.1 k)

-- where all pass a test, and none does, there is none
none_left : (p : ℕ → Bool) (ks : List ℕ) → ((k : ℕ) → p k ≡ true) → list_any p ks ≡ false → ks ≡ []
none_left p [] all h = refl
none_left p (k ∷ ks) all h =
    let none : p k ≡ false = (or_false (p k) (list_any p ks) h).0 in
    let bad : true ≡ false = sym (all k) ∙ none in
    absurd cc

module _ {O : Type 0} where
  counted_then : (s m n : MultiScan O) (ps qs : List ℕ) → Counted s m ps → Counted m n qs → Counted s n (ps ++ qs)
  counted_then s m n ps qs h k = record {
    passed = h.passed ++ k.passed;
    less = rise_then s.delivered m.delivered n.delivered h.passed k.passed h.less k.less;
    outside = none_of_both (is_given s.numbers) h.passed k.passed h.outside (subst (λ z. list_any (is_given z) k.passed ≡ false) h.same k.outside);
    count =
        let a = h.count in
        let b = k.count in
        let places = length-append ps qs in
        let passed = length-append h.passed k.passed in
        omega (arith, a, b, places, passed);
    same = k.same ∙ h.same;
  }

  -- nothing is delivered
  counts_none : (s new : MultiScan O) → new.delivered ≡ s.delivered → new.numbers ≡ s.numbers → Counted s new []
  counts_none s new d n = record {
    passed = [];
    less = omega (arith, d);
    outside = refl;
    count = omega (arith, d);
    same = n;
  }

  counts_same : (s new : MultiScan O) → new ≡ s → Counted s new []
  counts_same s new e = counts_none s new (ap (λ (z : MultiScan O). z.delivered) e) (ap (λ (z : MultiScan O). z.numbers) e)

  -- one file is answered
  counts_one : (s new : MultiScan O) (places : List ℕ) → length places ≡ 1 → new.delivered ≡ s.delivered + 1 → new.numbers ≡ s.numbers → Counted s new places
  counts_one s new places one d n = record {
    passed = [];
    less = omega (arith, d);
    outside = refl;
    count = omega (arith, d, one);
    same = n;
  }

  -- one file is passed over
  counts_passed : (s new : MultiScan O) → is_given s.numbers s.delivered ≡ false → new.delivered ≡ s.delivered + 1 → new.numbers ≡ s.numbers → Counted s new []
  counts_passed s new outside d n = record {
    passed = s.delivered ∷ [];
    less = (omega arith, omega (arith, d));
    outside = both_false (is_given s.numbers s.delivered) false outside refl;
    count = omega (arith, d);
    same = n;
  }

  module _ (opener : O → OpenerState) where
    -- ---- a look at a file
    finds_none : (stage : StageData) (s looked : MultiScan O) (k : ℕ) (f : Found) → FindsAt opener stage s looked k f → Counted s looked []
    finds_none file.opening s looked k f h =
        let polled = h.1 in
        let now : looked ≡ record s { source = polled.0 } = polled.2 in
        counts_none s looked (ap (λ (z : MultiScan O). z.delivered) now) (ap (λ (z : MultiScan O). z.numbers) now)
    finds_none (file.opened l) s looked k f h = counts_same s looked h.1
    finds_none file.failed s looked k f h = counts_same s looked h.1

    look_counts : (s looked : MultiScan O) (i k : ℕ) (f : Found) → Finds opener s looked i k f → Counted s looked []
    look_counts s looked i k f h = finds_none h.stage s looked k f h.finds

    -- ---- what comes of it
    opened_counts : (b : Bool) (s new : MultiScan O) (i k : ℕ) (l : Layout) → PassesOpened b s new i k l → Counted s new []
    opened_counts true s new i k l h = counts_passed s new h.1 (ap (λ (z : MultiScan O). z.delivered) h.2) (ap (λ (z : MultiScan O). z.numbers) h.2)
    opened_counts false s new i k l h = counts_none s new (ap (λ (z : MultiScan O). z.delivered) h) (ap (λ (z : MultiScan O). z.numbers) h)

    passes_counts : (s new : MultiScan O) (i k : ℕ) (f : Found) → Passes s new i k f → Counted s new []
    passes_counts s new i k asks.waits h = counts_same s new h
    passes_counts s new i k asks.short h = absurd h
    passes_counts s new i k asks.skipped h = counts_none s new (ap (λ (z : MultiScan O). z.delivered) h) (ap (λ (z : MultiScan O). z.numbers) h)
    passes_counts s new i k (asks.found l) h = opened_counts (is_turn s i) s new i k l h
    passes_counts s new i k asks.fails h = counts_none s new (ap (λ (z : MultiScan O). z.delivered) h.1) (ap (λ (z : MultiScan O). z.numbers) h.1)

    fails_counts : (s new : MultiScan O) (i k : ℕ) (l : Layout) (f : MultiFault) → FailsOpened s new i k l f → Counted s new (fault_places f)
    fails_counts s new i k l fault.NoMemory h = counts_none s new (ap (λ (z : MultiScan O). z.delivered) h) (ap (λ (z : MultiScan O). z.numbers) h)
    fails_counts s new i k l (fault.Opener p) h = counts_one s new (p ∷ []) refl (ap (λ (z : MultiScan O). z.delivered) h.1) (ap (λ (z : MultiScan O). z.numbers) h.1)
    fails_counts s new i k l (fault.DTypeMismatch p) h = counts_one s new (p ∷ []) refl (ap (λ (z : MultiScan O). z.delivered) h.1) (ap (λ (z : MultiScan O). z.numbers) h.1)
    fails_counts s new i k l (fault.Layout p x) h = counts_one s new (p ∷ []) refl (ap (λ (z : MultiScan O). z.delivered) h.1) (ap (λ (z : MultiScan O). z.numbers) h.1)
    fails_counts s new i k l (fault.RowRange p) h = counts_one s new (p ∷ []) refl (ap (λ (z : MultiScan O). z.delivered) h.1) (ap (λ (z : MultiScan O). z.numbers) h.1)
    fails_counts s new i k l (fault.TooManyRows p) h = counts_one s new (p ∷ []) refl (ap (λ (z : MultiScan O). z.delivered) h.1) (ap (λ (z : MultiScan O). z.numbers) h.1)

    gives_counts : (s new : MultiScan O) (i k : ℕ) (l : Layout) (r : PartitionPoll) → GivesOpened s new i k l r → Counted s new (places_in r)
    gives_counts s new i k l poll.Pending h = absurd h
    gives_counts s new i k l (poll.Partition p) h = counts_one s new (p.child ∷ []) refl (ap (λ (z : MultiScan O). z.delivered) h.3) (ap (λ (z : MultiScan O). z.numbers) h.3)
    gives_counts s new i k l poll.End h = absurd h
    gives_counts s new i k l (poll.Fault f) h = fails_counts s new i k l f h

    answers_counts : (s new : MultiScan O) (i k : ℕ) (f : Found) (r : PartitionPoll) → Answers s new i k f r → Counted s new (places_in r)
    answers_counts s new i k asks.waits r h = absurd h
    answers_counts s new i k asks.short r h = subst (λ (z : PartitionPoll). Counted s new (places_in z)) (sym h.0) (counts_same s new h.1)
    answers_counts s new i k asks.skipped r h = absurd h
    answers_counts s new i k (asks.found l) r h = gives_counts s new i k l r h.1
    answers_counts s new i k asks.fails r h =
        subst (λ (z : PartitionPoll). Counted s new (places_in z)) (sym h.1)
        (counts_one s new (k ∷ []) refl (ap (λ (z : MultiScan O). z.delivered) h.2) (ap (λ (z : MultiScan O). z.numbers) h.2))

    -- ---- polls
    steps_count : (s new : MultiScan O) → Steps opener s new → Counted s new []
    steps_count s new (inl h) = counts_none s new (ap (λ (z : MultiScan O). z.delivered) h.then) (ap (λ (z : MultiScan O). z.numbers) h.then)
    steps_count s new (inr h) = counted_then s h.looked new [] [] (look_counts s h.looked h.at h.place h.found h.finds) (passes_counts h.looked new h.at h.place h.found h.passes)

    goes_count : (n : ℕ) (s new : MultiScan O) → Goes opener n s new → Counted s new []
    goes_count zero s new h = counts_same s new h
    goes_count (suc n) s new h = counted_then s h.0 new [] [] (goes_count n s h.0 h.1) (steps_count h.0 new h.2)

    one_counts : (s new : MultiScan O) (r : PartitionPoll) → AnswersOne opener s new r → Counted s new (places_in r)
    one_counts s new r h = counted_then s h.looked new [] (places_in r) (look_counts s h.looked h.at h.place h.found h.finds) (answers_counts h.looked new h.at h.place h.found r h.answers)

    answer_counts : (s new : MultiScan O) (r : PartitionPoll) → AnswersBy opener s new r → Counted s new (places_in r)
    answer_counts s new poll.Pending h = counts_same s new h
    answer_counts s new (poll.Partition p) h = one_counts s new (poll.Partition p) h
    answer_counts s new poll.End h = counts_same s new h.2
    answer_counts s new (poll.Fault f) (inl h) = subst (λ (g : MultiFault). Counted s new (fault_places g)) (sym h.0) (counts_same s new h.1)
    answer_counts s new (poll.Fault f) (inr h) = one_counts s new (poll.Fault f) h

    poll_counts : (s new : MultiScan O) (r : PartitionPoll) → IsPolled opener s new r → Counted s new (places_in r)
    poll_counts s new r h = counted_then s h.then new [] (places_in r) (goes_count h.steps s h.then h.goes) (answer_counts h.then new r h.answer)

    polls_count : (rs : List PartitionPoll) (old new : MultiScan O) → Polls opener rs old new → Counted old new (places_answered rs)
    polls_count [] old new h = counts_same old new h
    polls_count (r ∷ rs) old new h = counted_then old h.0 new (places_in r) (places_answered rs) (poll_counts old h.0 r h.1) (polls_count rs h.0 new h.2)

    -- ---- a partition
    -- it has the number that the scan counts when its file is looked at, and then is counted
    record HasNumber (looked new : MultiScan O) (p : PartitionData) : Type 0 where
      pub index : p.index ≡ looked.delivered
      pub given : is_given looked.numbers looked.delivered ≡ true
      pub next : new.delivered ≡ looked.delivered + 1

    has_number : (looked new : MultiScan O) (i k : ℕ) (f : Found) (p : PartitionData) → Answers looked new i k f (poll.Partition p) → HasNumber looked new p
    has_number looked new i k asks.waits p h = absurd h
    has_number looked new i k asks.short p h = absurd (no_fault h.0)
      where
        no_fault : poll.Partition p ≡ poll.Fault fault.NoMemory → ⊥
        no_fault e = absurd cc
    has_number looked new i k asks.skipped p h = absurd h
    has_number looked new i k (asks.found l) p h =
        let gives = h.1 in
        let is = gives.2 in
        record { index = is.index; given = gives.1; next = ap (λ (z : MultiScan O). z.delivered) gives.3 }
    has_number looked new i k asks.fails p h = absurd (no_fault h.1)
      where
        no_fault : poll.Partition p ≡ poll.Fault (fault.Opener k) → ⊥
        no_fault e = absurd cc

    number_of : (rs : List PartitionPoll) (old looked new : MultiScan O) (p : PartitionData) → Counted old looked (places_answered rs) → HasNumber looked new p → IsNumbered old new rs p
    number_of rs old looked new p c h =
        let index = h.index in
        record {
          passed = c.passed;
          less = subst (RiseUpTo old.delivered c.passed) (sym index) c.less;
          outside = c.outside;
          count = index ∙ c.count;
          given = ap (λ z. is_given z p.index) (sym c.same) ∙ ap (is_given looked.numbers) index ∙ h.given;
          next = let next = h.next in omega (arith, next, index);
        }

    pub numbered : (rs : List PartitionPoll) (old mid new : MultiScan O) (p : PartitionData) → Polls opener rs old mid → IsPolled opener mid new (poll.Partition p) → IsNumbered old new rs p
    numbered rs old mid new p polls last =
        let answer : AnswersOne opener last.then new (poll.Partition p) = last.answer in
        let before = polls_count rs old mid polls in
        let steps = counted_then mid last.then answer.looked [] [] (goes_count last.steps mid last.then last.goes) (look_counts last.then answer.looked answer.at answer.place answer.found answer.finds) in
        let all : Counted old answer.looked (places_answered rs ++ []) = counted_then old mid answer.looked (places_answered rs) [] before steps in
        let here : Counted old answer.looked (places_answered rs) = subst (Counted old answer.looked) (append-nil (places_answered rs)) all in
        number_of rs old answer.looked new p here (has_number answer.looked new answer.at answer.place answer.found p answer.answers)

  -- ---- from the beginning
  pub numbered_first : (opener : O → OpenerState) (rs : List PartitionPoll) (source : MultiData O) (q : BoundScanRequest) (r : ScanRequest) (old mid new : MultiScan O) (p : PartitionData)
      → StartsMulti source q (numbers_of r) old → ((k : ℕ) → is_given (numbers_of r) k ≡ true) → Polls opener rs old mid → IsPolled opener mid new (poll.Partition p) → p.index ≡ length (places_answered rs)
  numbered_first opener rs source q r old mid new p starts all polls last =
      let c = numbered opener rs old mid new p polls last in
      let first : old.delivered ≡ 0 = ap (λ (z : MultiScan O). z.delivered) starts.scan in
      let asked : old.numbers ≡ numbers_of r = ap (λ (z : MultiScan O). z.numbers) starts.scan in
      let outside : list_any (is_given (numbers_of r)) c.passed ≡ false = subst (λ z. list_any (is_given z) c.passed ≡ false) asked c.outside in
      let none = ap length (none_left (is_given (numbers_of r)) c.passed all outside) in
      let count = c.count in
      omega (arith, count, first, none)
