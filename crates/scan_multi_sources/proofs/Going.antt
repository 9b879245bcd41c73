-- What steps of a poll leave.
use Rattle.std.proofs.Common.{◌≡◌, ◌<◌, ℕ, suc, Bool, true, false, ◌&&◌, List, Option, Some, None, ◌⊎◌, inl, inr, refl, ap, sym, subst, ◌∙◌, arith}
use Rattle.std.proofs.lemmas.Bool.Decides.{nat_tests}
use Rattle.std.specs.List.{list_any, slice_get}
use Rattle.scan_values.specs.Same.{same_type}
use Rattle.scan_layout.specs.Check.{first_fault}
use Rattle.scan_layout.specs.Layout.{Layout, dtype_of, rows_of}
use Rattle.scan_layout.specs.declared.fault.LayoutFault.{LayoutFault}
use Rattle.scan_opener.specs.Opener.{OpenerState}
use Rattle.scan_opener.specs.declared.opener.Opening.{Opening}
use Rattle.scan_opener.specs.declared.opener.Opening.TheVariants as opening
use Rattle.scan_multi_sources.specs.FileFaults.{ends_past, is_too_many, many_fault, typed_fault}
use Rattle.scan_multi_sources.specs.Files.{SlotData, StageData, keeps_failure, slot_data}
use Rattle.scan_multi_sources.specs.Files as file
use Rattle.scan_multi_sources.specs.MultiScans.{IsMultiScan, KeepsInOrder, MultiScan, FindsAt, Passes, PassesOpened, PollsFile, first_of, is_turn}
use Rattle.scan_multi_sources.specs.Numbers.{is_given}
use Rattle.scan_multi_sources.specs.Opens.{Found, Moves, Waited, found_of}
use Rattle.scan_multi_sources.specs.Opens as asks
use Rattle.scan_multi_sources.specs.Polls.{Answers, AnswersBy, AnswersOne, FailsBy, FailsOpened, FaultsBy, GivesOpened, Goes, IsPolled, LooksAt, PendingWaited, Steps, StepsLast, StepsOn}
use Rattle.scan_multi_sources.specs.declared.fault.MultiFault.{MultiFault}
use Rattle.scan_multi_sources.specs.declared.fault.MultiFault.TheVariants as fault
use Rattle.scan_multi_sources.specs.declared.scan.PartitionPoll.{PartitionPoll}
use Rattle.scan_multi_sources.specs.declared.scan.PartitionPoll.TheVariants as poll
use Rattle.scan_multi_sources.proofs.Before.{looks_start}
use Rattle.scan_multi_sources.proofs.Finding.{any_append, any_at, any_remove, any_set}
use Rattle.scan_multi_sources.proofs.Moving.{asks_fail, asks_move, failed_wider, moves_then, stays, waited_then, waited_wider}

same_place : (k n : ℕ) → keeps_failure n (slot_data k file.failed) ≡ true → k ≡ n
same_place k n e = grind (arith, nat_tests, e)

-- ---- what a file comes to changes nothing of the source
module _ {O : Type 0} where
  opened_source : (b : Bool) (s new : MultiScan O) (i k : ℕ) (l : Layout) → PassesOpened b s new i k l → new.source ≡ s.source
  opened_source true s new i k l h = ap (λ z. z.source) h.2
  opened_source false s new i k l h = ap (λ z. z.source) h

  passed_source : (s new : MultiScan O) (i k : ℕ) (f : Found) → Passes s new i k f → new.source ≡ s.source
  passed_source s new i k asks.waits h = ap (λ z. z.source) h
  passed_source s new i k asks.short h = absurd h
  passed_source s new i k asks.skipped h = ap (λ z. z.source) h
  passed_source s new i k (asks.found l) h = opened_source (is_turn s i) s new i k l h
  passed_source s new i k asks.fails h = ap (λ z. z.source) h.1

  fails_source : (s new : MultiScan O) (i k : ℕ) (l : Layout) (f : MultiFault) → FailsOpened s new i k l f → new.source ≡ s.source
  fails_source s new i k l fault.NoMemory h = ap (λ z. z.source) h
  fails_source s new i k l (fault.Opener n) h = ap (λ z. z.source) h.1
  fails_source s new i k l (fault.DTypeMismatch n) h = ap (λ z. z.source) h.1
  fails_source s new i k l (fault.Layout n e) h = ap (λ z. z.source) h.1
  fails_source s new i k l (fault.RowRange n) h = ap (λ z. z.source) h.1
  fails_source s new i k l (fault.TooManyRows n) h = ap (λ z. z.source) h.1

  gives_source : (s new : MultiScan O) (i k : ℕ) (l : Layout) (r : PartitionPoll) → GivesOpened s new i k l r → new.source ≡ s.source
  gives_source s new i k l poll.Pending h = absurd h
  gives_source s new i k l (poll.Partition p) h = ap (λ z. z.source) h.3
  gives_source s new i k l poll.End h = absurd h
  gives_source s new i k l (poll.Fault f) h = fails_source s new i k l f h

  answer_source : (s new : MultiScan O) (i k : ℕ) (f : Found) (r : PartitionPoll) → Answers s new i k f r → new.source ≡ s.source
  answer_source s new i k asks.waits r h = absurd h
  answer_source s new i k asks.short r h = ap (λ z. z.source) h.1
  answer_source s new i k asks.skipped r h = absurd h
  answer_source s new i k (asks.found l) r h = gives_source s new i k l r h.1
  answer_source s new i k asks.fails r h = ap (λ z. z.source) h.2

  -- ---- what is kept was kept, or failed
  abbrev pub keeps : MultiScan O → ℕ → Type 0
  keeps s k = list_any (keeps_failure k) s.window ≡ true

  opened_keeps : (b : Bool) (s new : MultiScan O) (i k n : ℕ) (l : Layout) → PassesOpened b s new i k l → keeps new n → keeps s n
  opened_keeps true s new i k n l h e = any_remove (keeps_failure n) s.window i (subst (λ z. list_any (keeps_failure n) z ≡ true) (ap (λ z. z.window) h.2) e)
  opened_keeps false s new i k n l h e = elim (any_set (keeps_failure n) s.window i (slot_data k (file.opened l)) (subst (λ z. list_any (keeps_failure n) z ≡ true) (ap (λ z. z.window) h) e)) [ inl a ↦ absurd cc | inr b ↦ b ]

  passed_keeps : (s new : MultiScan O) (i k n : ℕ) (f : Found) → Passes s new i k f → keeps new n → keeps s n ⊎ ((f ≡ asks.fails) × (k ≡ n))
  passed_keeps s new i k n asks.waits h e = inl (subst (λ z. list_any (keeps_failure n) z ≡ true) (ap (λ z. z.window) h) e)
  passed_keeps s new i k n asks.short h e = absurd h
  passed_keeps s new i k n asks.skipped h e = inl (any_remove (keeps_failure n) s.window i (subst (λ z. list_any (keeps_failure n) z ≡ true) (ap (λ z. z.window) h) e))
  passed_keeps s new i k n (asks.found l) h e = inl (opened_keeps (is_turn s i) s new i k n l h e)
  passed_keeps s new i k n asks.fails h e = elim (any_set (keeps_failure n) s.window i (slot_data k file.failed) (subst (λ z. list_any (keeps_failure n) z ≡ true) (ap (λ z. z.window) h.1) e)) [ inl a ↦ inr (refl, same_place k n a) | inr b ↦ inl b ]

module _ {O : Type 0} (opener : O → OpenerState) where
  pub polled_children : (s looked : MultiScan O) (k : ℕ) (r : Opening) (h : PollsFile opener s looked k r) → looked.source.children ≡ h.1.0
  polled_children s looked k r h = ap (λ z. z.source.children) h.2 ∙ ap (λ z. z.children) h.1.2

  finds_moves : (t : StageData) (s new : MultiScan O) (k : ℕ) (f : Found) → FindsAt opener t s new k f → Moves opener s.source.children new.source.children
  finds_moves file.opening s new k f h = subst (λ z. Moves opener s.source.children z) (sym (polled_children s new k h.0 h.1)) (asks_move opener s.source.children h.1.1.0 k h.0 h.1.1.1)
  finds_moves (file.opened l) s new k f h = let is = ap (λ z. z.source.children) h.1 in rw is (stays opener s.source.children)
  finds_moves file.failed s new k f h = let is = ap (λ z. z.source.children) h.1 in rw is (stays opener s.source.children)

  finds_window : (t : StageData) (s new : MultiScan O) (k : ℕ) (f : Found) → FindsAt opener t s new k f → new.window ≡ s.window
  finds_window file.opening s new k f h = ap (λ z. z.window) h.1.2
  finds_window (file.opened l) s new k f h = ap (λ z. z.window) h.1
  finds_window file.failed s new k f h = ap (λ z. z.window) h.1

  same_source : (s mid new : MultiScan O) → new.source ≡ mid.source → Moves opener s.source.children mid.source.children → Moves opener s.source.children new.source.children
  same_source s mid new is m = let e = ap (λ z. z.children) is in rw e m

  pub step_moves : (s new : MultiScan O) → Steps opener s new → Moves opener s.source.children new.source.children
  step_moves s new (inl b) = let e = ap (λ z. z.source.children) b.then in rw e (stays opener s.source.children)
  step_moves s new (inr p) = same_source s p.looked new (passed_source p.looked new p.at p.place p.found p.passes) (finds_moves (p.finds).stage s p.looked p.place p.found (p.finds).finds)

  one_moves : (s new : MultiScan O) (r : PartitionPoll) → AnswersOne opener s new r → Moves opener s.source.children new.source.children
  one_moves s new r p = same_source s p.looked new (answer_source p.looked new p.at p.place p.found r p.answers) (finds_moves (p.finds).stage s p.looked p.place p.found (p.finds).finds)

  equal_moves : (s new : MultiScan O) → new ≡ s → Moves opener s.source.children new.source.children
  equal_moves s new is = rw is (stays opener s.source.children)

  pub last_moves : (s new : MultiScan O) (r : PartitionPoll) → AnswersBy opener s new r → Moves opener s.source.children new.source.children
  last_moves s new poll.Pending h = equal_moves s new h
  last_moves s new (poll.Partition p) h = one_moves s new (poll.Partition p) h
  last_moves s new poll.End h = equal_moves s new h.2
  last_moves s new (poll.Fault f) (inl h) = equal_moves s new h.1
  last_moves s new (poll.Fault f) (inr h) = one_moves s new (poll.Fault f) h

  -- ---- failures
  found_fails : (r : Opening) → asks.fails ≡ found_of r → r ≡ opening.Failed
  found_fails opening.Pending e = absurd cc
  found_fails (opening.Opened l) e = absurd cc
  found_fails opening.Skipped e = absurd cc
  found_fails opening.Failed e = refl
  found_fails opening.NoMemory e = absurd cc

  finds_failed : (t : StageData) (s new : MultiScan O) (i k : ℕ) → slice_get s.window i ≡ Some (slot_data k t) → FindsAt opener t s new k asks.fails
      → keeps s k ⊎ asks.Failed opener s.source.children new.source.children k
  finds_failed file.opening s new i k g h =
      let fell = subst (λ r. asks.Asks opener s.source.children h.1.1.0 k r) (found_fails h.0 h.2) h.1.1.1 in
      inr (subst (λ z. asks.Failed opener s.source.children z k) (sym (polled_children s new k h.0 h.1)) (asks_fail opener s.source.children h.1.1.0 k fell))
  finds_failed (file.opened l) s new i k g h = absurd (let e = h.0 in cc)
  finds_failed file.failed s new i k g h = inl (any_at (keeps_failure k) s.window i (slot_data k file.failed) g (self_place k))
    where
      self_place : (k : ℕ) → keeps_failure k (slot_data k file.failed) ≡ true
      self_place k = grind (arith, nat_tests)

  pub step_keeps : (s new : MultiScan O) (n : ℕ) → Steps opener s new → keeps new n → keeps s n ⊎ asks.Failed opener s.source.children new.source.children n
  step_keeps s new n (inl b) e = elim (any_append (keeps_failure n) s.window (slot_data b.place file.opening) (subst (λ z. list_any (keeps_failure n) z ≡ true) (ap (λ z. z.window) b.then) e)) [ inl a ↦ absurd cc | inr c ↦ inl c ]
  step_keeps s new n (inr p) e = go (passed_keeps p.looked new p.at p.place n p.found p.passes e)
    where
      stage : StageData
      stage = (p.finds).stage

      finds : FindsAt opener stage s p.looked p.place p.found
      finds = (p.finds).finds

      failed : (f : Found) → f ≡ asks.fails → p.place ≡ n → FindsAt opener stage s p.looked p.place f → keeps s n ⊎ asks.Failed opener s.source.children new.source.children n
      failed f is at h =
          let e = ap (λ z. z.children) (passed_source p.looked new p.at p.place p.found p.passes) in
          rw (e, ← at) (finds_failed stage s p.looked p.at p.place (p.finds).slot (subst (λ z. FindsAt opener stage s p.looked p.place z) is h))

      go : keeps p.looked n ⊎ ((p.found ≡ asks.fails) × (p.place ≡ n)) → keeps s n ⊎ asks.Failed opener s.source.children new.source.children n
      go (inl k) = inl (subst (λ z. list_any (keeps_failure n) z ≡ true) (finds_window stage s p.looked p.place p.found finds) k)
      go (inr k) = failed p.found k.0 k.1 finds

  not_opener : (k n : ℕ) (b m past : Bool) (form : Option LayoutFault) → first_of (typed_fault k b form past) (many_fault k m) ≡ Some (fault.Opener n) → ⊥
  not_opener k n false m past form e = cc
  not_opener k n true m past (Some f) e = cc
  not_opener k n true m true None e = cc
  not_opener k n true true false None e = cc
  not_opener k n true false false None e = cc

  answer_fails : (s new : MultiScan O) (i k n : ℕ) (f : Found) → Answers s new i k f (poll.Fault (fault.Opener n)) → (f ≡ asks.fails) × (k ≡ n)
  answer_fails s new i k n asks.waits h = absurd h
  answer_fails s new i k n asks.short h = absurd (let e = h.0 in cc)
  answer_fails s new i k n asks.skipped h = absurd h
  answer_fails s new i k n (asks.found l) h =
      absurd (not_opener k n (same_type (dtype_of l) s.source.dtype) (is_given s.numbers s.delivered && is_too_many s.seat s.given_rows (rows_of l)) (ends_past s.request.row_range (rows_of l)) (first_fault l s.source.dtype) h.1.0)
  answer_fails s new i k n asks.fails h = (refl, let e = h.1 in cc)

  one_fails : (s new : MultiScan O) (n : ℕ) → AnswersOne opener s new (poll.Fault (fault.Opener n)) → keeps s n ⊎ asks.Failed opener s.source.children new.source.children n
  one_fails s new n p =
      let is = answer_fails p.looked new p.at p.place n p.found p.answers in
      go p.found is.0 is.1 (p.finds).finds
    where
      go : (f : Found) → f ≡ asks.fails → p.place ≡ n → FindsAt opener (p.finds).stage s p.looked p.place f → keeps s n ⊎ asks.Failed opener s.source.children new.source.children n
      go f is at h =
          let e = ap (λ z. z.children) (answer_source p.looked new p.at p.place p.found (poll.Fault (fault.Opener n)) p.answers) in
          rw (e, ← at) (finds_failed (p.finds).stage s p.looked p.at p.place (p.finds).slot (subst (λ z. FindsAt opener (p.finds).stage s p.looked p.place z) is h))

  pub last_fails : (s new : MultiScan O) (n : ℕ) → AnswersBy opener s new (poll.Fault (fault.Opener n)) → keeps s n ⊎ asks.Failed opener s.source.children new.source.children n
  last_fails s new n (inl h) = absurd (let e = h.0 in cc)
  last_fails s new n (inr p) = one_fails s new n p

  -- ---- a call so far
  pub record InCall (start now : MultiScan O) (at : ℕ) : Type 0 where
    pub steps : ℕ
    pub goes : Goes opener steps start now
    pub moves : Moves opener start.source.children now.source.children
    pub waits : 0 < at → Waited opener start.source.children now.source.children
    pub before : LooksAt now at
    pub keeps : (n : ℕ) → list_any (keeps_failure n) now.window ≡ true → (list_any (keeps_failure n) start.window ≡ true) ⊎ asks.Failed opener start.source.children now.source.children n

  pub call_starts : (s : MultiScan O) → InCall s s 0
  call_starts s = record { steps = 0; goes = refl; moves = stays opener s.source.children; waits = λ l. absurd (omega (arith, l)); before = looks_start s; keeps = λ n h. inl h }

  wider : (start mid new : MultiScan O) (n : ℕ) → ((k : ℕ) → list_any (keeps_failure k) mid.window ≡ true → (list_any (keeps_failure k) start.window ≡ true) ⊎ asks.Failed opener start.source.children mid.source.children k)
      → Moves opener start.source.children mid.source.children → Moves opener mid.source.children new.source.children
      → (list_any (keeps_failure n) mid.window ≡ true) ⊎ asks.Failed opener mid.source.children new.source.children n
      → (list_any (keeps_failure n) start.window ≡ true) ⊎ asks.Failed opener start.source.children new.source.children n
  wider start mid new n kept a b (inl h) = elim (kept n h) [ inl x ↦ inl x | inr y ↦ inr (failed_wider opener start.source.children start.source.children mid.source.children new.source.children n (stays opener start.source.children) y b) ]
  wider start mid new n kept a b (inr h) = inr (failed_wider opener start.source.children mid.source.children new.source.children new.source.children n a h (stays opener new.source.children))

  pub call_goes : (start now new : MultiScan O) (at next : ℕ) → InCall start now at → StepsOn opener now new at next → InCall start new next
  call_goes start now new at next c s =
      let m = step_moves now new s.step in
      record {
        steps = suc c.steps;
        goes = (now, c.goes, s.step);
        moves = moves_then opener start.source.children now.source.children new.source.children c.moves m;
        waits = λ l. elim (s.waits l) [ inl a ↦ waited_then opener start.source.children now.source.children new.source.children (c.waits a) m | inr w ↦ waited_wider opener start.source.children now.source.children new.source.children c.moves w ];
        before = s.before;
        keeps = λ n h. wider start now new n c.keeps c.moves m (step_keeps now new n s.step h);
      }

  pub call_ends : (start now new : MultiScan O) (at : ℕ) (r : PartitionPoll) → InCall start now at → StepsLast opener now new at r → IsPolled opener start new r
  call_ends start now new at r c s = record { steps = c.steps; then = now; goes = c.goes; answer = s.answer }

  pub call_moves : (start now new : MultiScan O) (at : ℕ) (r : PartitionPoll) → InCall start now at → StepsLast opener now new at r → Moves opener start.source.children new.source.children
  call_moves start now new at r c s = moves_then opener start.source.children now.source.children new.source.children c.moves (last_moves now new r s.answer)

  pub call_waits : (start now new : MultiScan O) (at : ℕ) (r : PartitionPoll) → InCall start now at → StepsLast opener now new at r → PendingWaited opener start new r
  call_waits start now new at r c s = λ is. waited_then opener start.source.children now.source.children new.source.children (c.waits (s.waits is)) (last_moves now new r s.answer)

  in_order : (b : Bool) (ws : List SlotData) (n : ℕ) → KeepsInOrder b ws → list_any (keeps_failure n) ws ≡ true → b ≡ true
  in_order true ws n h e = refl
  in_order false ws n h e = absurd (let no = h n in cc)

  fails_by : (start new : MultiScan O) (n : ℕ) → IsMultiScan start → (list_any (keeps_failure n) start.window ≡ true) ⊎ asks.Failed opener start.source.children new.source.children n → FailsBy opener start new n
  fails_by start new n is (inl h) = inr (in_order start.request.ordered start.window n is.failures h, h)
  fails_by start new n is (inr h) = inl h

  pub call_fails : (start now new : MultiScan O) (at : ℕ) (r : PartitionPoll) → IsMultiScan start → InCall start now at → StepsLast opener now new at r → FaultsBy opener start new r
  call_fails start now new at r is c s = λ n e.
      let m = last_moves now new r s.answer in
      fails_by start new n is (wider start now new n c.keeps c.moves m (last_fails now new n (subst (λ z. AnswersBy opener now new z) e s.answer)))
