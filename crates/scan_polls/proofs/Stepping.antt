-- What a step of a poll does to the files that are due.
use Rattle.std.proofs.Common.{◌≡◌, ◌≤◌, ◌<◌, ◌+◌, ◌==◌, not, ◌||◌, ℕ, zero, suc, Bool, true, false, List, [], ◌∷◌, ◌++◌, length, take, Option, None, Some, inl, inr, refl, sym, ap, subst, ◌∙◌, append_assoc, length-append, arith}
use Rattle.std.specs.Prelude.{◌⊎◌, ◌&&◌}
use Rattle.std.proofs.lemmas.Bool.Decides.{nat_tests}
use Rattle.std.proofs.lemmas.List.{length-map, map-append}
use Rattle.std.specs.List.{list_any, remove, slice_get}
use Rattle.scan_values.specs.Same.{same_type}
use Rattle.scan_layout.specs.Check.{first_fault}
use Rattle.scan_layout.specs.Layout.{Layout, dtype_of, rows_of}
use Rattle.scan_layout.specs.declared.fault.LayoutFault.{LayoutFault}
use Rattle.scan_opener.specs.Opener.{OpenerState}
use Rattle.scan_sources.specs.declared.request.BoundScanRequest.{BoundScanRequest}
use Rattle.scan_multi_sources.specs.Children.{is_open}
use Rattle.scan_multi_sources.specs.FileFaults.{ends_past, file_fault, form_fault, is_too_many, many_fault, past_fault, typed_fault}
use Rattle.scan_multi_sources.specs.Files.{SlotData, StageData, slot_data}
use Rattle.scan_multi_sources.specs.Files as file
use Rattle.scan_multi_sources.specs.MultiScans.{Finds, FindsAt, MultiScan, Passes, PassesOpened, begun, delivered_at, first_of, given_at, is_turn, kept_at, left_out, refusal}
use Rattle.scan_multi_sources.specs.Numbers.{is_given}
use Rattle.scan_multi_sources.specs.Opens as asks
use Rattle.scan_multi_sources.specs.Opens.{Found}
use Rattle.scan_multi_sources.specs.Polls.{Answers, Begins, FailsOpened, GivesOpened, NoneBefore}
use Rattle.scan_multi_sources.specs.Sources.{MultiData}
use Rattle.scan_multi_sources.specs.declared.fault.MultiFault.{MultiFault}
use Rattle.scan_multi_sources.specs.declared.fault.MultiFault.TheVariants as fault
use Rattle.scan_multi_sources.specs.declared.scan.PartitionPoll.{PartitionPoll}
use Rattle.scan_multi_sources.specs.declared.scan.PartitionPoll.TheVariants as poll
use Rattle.scan_polls.specs.Due.{IsPartOf, NoneOpen, OpenFirst, RiseUpTo, StandFirst, due, fault_places, numbers_in, places_begun, places_in, times}
use Rattle.scan_multi_sources.proofs.Before.{any_none, polled_open}
use Rattle.scan_polls.proofs.Counting.{places_kept, times_append, times_removed}
use Rattle.scan_polls.proofs.Firsts.{first_removed, first_same, none_left}
use Rattle.scan_polls.proofs.Ordering.{part_before, part_removed, part_same, part_self, part_then, rise_then, shorter}

-- These places were answered, and these numbers given: of the files that were due.
pub record Moved {O : Type 0} (s new : MultiScan O) (places numbers : List ℕ) : Type 0 where
  pub passed : List ℕ
  pub skipped : List ℕ
  pub each : (k : ℕ) → times k (due s) ≡ times k places + times k passed + times k skipped + times k (due new)
  pub count : new.delivered ≡ s.delivered + length places + length passed
  pub order : (s.request).ordered ≡ true → IsPartOf (places ++ due new) (due s)
  pub ordered : (new.request).ordered ≡ (s.request).ordered
  pub rise : RiseUpTo s.delivered numbers new.delivered
  pub few : length s.window ≤ (s.source).concurrency → length new.window ≤ (new.source).concurrency
  pub opens : (j : ℕ) → is_open (new.source).children j ≡ is_open (s.source).children j
  pub first : OpenFirst s → StandFirst (is_open (s.source).children) (due new)

module _ {O : Type 0} where
  pub moved_none : (s : MultiScan O) → Moved s s [] []
  moved_none s = record {
    passed = [];
    skipped = [];
    each = λ k. omega arith;
    count = omega arith;
    order = λ o. part_self (due s);
    ordered = refl;
    rise = omega arith;
    few = λ l. l;
    opens = λ j. refl;
    first = λ f. f;
  }

  pub moved_then : (s m n : MultiScan O) (ps ns qs ms : List ℕ) → Moved s m ps ns → Moved m n qs ms → Moved s n (ps ++ qs) (ns ++ ms)
  moved_then s m n ps ns qs ms h k = record {
    passed = h.passed ++ k.passed;
    skipped = h.skipped ++ k.skipped;
    each = λ i.
        let a = h.each i in
        let b = k.each i in
        let places = times_append i ps qs in
        let passed = times_append i h.passed k.passed in
        let skipped = times_append i h.skipped k.skipped in
        omega (arith, a, b, places, passed, skipped);
    count =
        let a = h.count in
        let b = k.count in
        let places = length-append ps qs in
        let passed = length-append h.passed k.passed in
        omega (arith, a, b, places, passed);
    order = λ o.
        part_then ((ps ++ qs) ++ due n) (ps ++ due m) (due s)
        (subst (λ xs. IsPartOf xs (ps ++ due m)) (sym (append_assoc ps qs (due n))) (part_before ps (qs ++ due n) (due m) (k.order (h.ordered ∙ o))))
        (h.order o);
    ordered = k.ordered ∙ h.ordered;
    rise = rise_then s.delivered m.delivered n.delivered ns ms h.rise k.rise;
    few = λ l. k.few (h.few l);
    opens = λ j. k.opens j ∙ h.opens j;
    first = λ f.
        let a = is_open (s.source).children in
        let b = is_open (m.source).children in
        first_same a b (λ j. sym (h.opens j)) (due n) (k.first (first_same b a h.opens (due m) (h.first f)));
  }

  -- ---- a scan that is the same but for what its openers did
  pub record Looked (s looked : MultiScan O) : Type 0 where
    pub window : looked.window ≡ s.window
    pub waiting : looked.waiting ≡ s.waiting
    pub request : looked.request ≡ s.request
    pub delivered : looked.delivered ≡ s.delivered
    pub concurrency : (looked.source).concurrency ≡ (s.source).concurrency
    pub opens : (j : ℕ) → is_open (looked.source).children j ≡ is_open (s.source).children j

  looked_at : (opener : O → OpenerState) (stage : StageData) (s looked : MultiScan O) (k : ℕ) (f : Found) → FindsAt opener stage s looked k f → Looked s looked
  looked_at opener file.opening s looked k f h =
      let polled = h.1 in
      let asked = (polled.1) in
      let now : looked ≡ record s { source = polled.0 } = polled.2 in
      record {
        window = ap (λ (z : MultiScan O). z.window) now;
        waiting = ap (λ (z : MultiScan O). z.waiting) now;
        request = ap (λ (z : MultiScan O). z.request) now;
        delivered = ap (λ (z : MultiScan O). z.delivered) now;
        concurrency = ap (λ (z : MultiScan O). (z.source).concurrency) now ∙ ap (λ (d : MultiData O). d.concurrency) asked.2;
        opens = polled_open opener s looked k h.0 polled;
      }
  looked_at opener (file.opened l) s looked k f h = same_scan s looked h.1
    where
      same_scan : (a b : MultiScan O) → b ≡ a → Looked a b
      same_scan a b e = subst (λ (z : MultiScan O). Looked a z) (sym e) (record { window = refl; waiting = refl; request = refl; delivered = refl; concurrency = refl; opens = λ j. refl })
  looked_at opener file.failed s looked k f h = same_scan s looked h.1
    where
      same_scan : (a b : MultiScan O) → b ≡ a → Looked a b
      same_scan a b e = subst (λ (z : MultiScan O). Looked a z) (sym e) (record { window = refl; waiting = refl; request = refl; delivered = refl; concurrency = refl; opens = λ j. refl })

  pub moved_looked : (s looked : MultiScan O) → Looked s looked → Moved s looked [] []
  moved_looked s looked h =
      let same : due looked ≡ due s = ap (λ (ws : List SlotData). places_begun ws ++ looked.waiting) h.window ∙ ap (λ (ks : List ℕ). places_begun s.window ++ ks) h.waiting in
      record {
        passed = [];
        skipped = [];
        each = λ k. let e = ap (times k) same in omega (arith, e);
        count = let d = h.delivered in omega (arith, d);
        order = λ o. part_same (due looked) (due s) same;
        ordered = ap (λ (q : BoundScanRequest). q.ordered) h.request;
        rise = let d = h.delivered in omega (arith, d);
        few = λ l. let c = h.concurrency in let n = ap length h.window in omega (arith, l, c, n);
        opens = h.opens;
        first = λ f. subst (StandFirst (is_open (s.source).children)) (sym same) f;
      }

  -- what a file comes to that is looked at
  pub looked_of : (opener : O → OpenerState) (s looked : MultiScan O) (i k : ℕ) (f : Found) → Finds opener s looked i k f → Looked s looked
  looked_of opener s looked i k f h = looked_at opener h.stage s looked k f h.finds

  pub slot_of : (opener : O → OpenerState) (s looked : MultiScan O) (i k : ℕ) (f : Found) → (h : Finds opener s looked i k f) → slice_get looked.window i ≡ Some (slot_data k h.stage)
  slot_of opener s looked i k f h = ap (λ (ws : List SlotData). slice_get ws i) (looked_of opener s looked i k f h).window ∙ h.slot

  -- ---- steps
  pub moved_begun : (s new : MultiScan O) → Begins s new → Moved s new [] []
  moved_begun s new h = subst (λ (z : MultiScan O). Moved s z [] []) (sym h.then) made
    where
      same : due (begun s h.place h.rest) ≡ due s
      same =
          ap (λ (ps : List ℕ). ps ++ h.rest) (map-append (λ (w : SlotData). w.place) s.window (slot_data h.place file.opening ∷ []))
          ∙ append_assoc (places_begun s.window) (h.place ∷ []) h.rest
          ∙ ap (λ (ks : List ℕ). places_begun s.window ++ ks) (sym h.next)

      made : Moved s (begun s h.place h.rest) [] []
      made = record {
        passed = [];
        skipped = [];
        each = λ k. let e = ap (times k) same in omega (arith, e);
        count = omega arith;
        order = λ o. part_same (due (begun s h.place h.rest)) (due s) same;
        ordered = refl;
        rise = omega arith;
        few = λ l.
            let long = length-append s.window (slot_data h.place file.opening ∷ []) in
            let room : length s.window < (s.source).concurrency = grind (arith, nat_tests, h.few) in
            omega (arith, long, room);
        opens = λ j. refl;
        first = λ f. subst (StandFirst (is_open (s.source).children)) (sym same) f;
      }

  module _ (s : MultiScan O) (i p : ℕ) (stage : StageData) (slot : slice_get s.window i ≡ Some (slot_data p stage)) where
    moved_kept : (next : StageData) → Moved s (kept_at s i p next) [] []
    moved_kept next =
        let same : due (kept_at s i p next) ≡ due s = ap (λ (ps : List ℕ). ps ++ s.waiting) (places_kept s.window i p stage next slot) in
        record {
          passed = [];
          skipped = [];
          each = λ k. let e = ap (times k) same in omega (arith, e);
          count = omega arith;
          order = λ o. part_same (due (kept_at s i p next)) (due s) same;
          ordered = refl;
          rise = omega arith;
          few = λ l. kept_few next l;
          opens = λ j. refl;
          first = λ f. subst (StandFirst (is_open (s.source).children)) (sym same) f;
        }
      where
        kept_few : (n : StageData) → length s.window ≤ (s.source).concurrency → length (kept_at s i p n).window ≤ (s.source).concurrency
        kept_few n l = omega (arith, l, sym (length-map (kept_at s i p n).window (λ (w : SlotData). w.place)) ∙ ap length (places_kept s.window i p stage n slot) ∙ length-map s.window (λ (w : SlotData). w.place))

    -- how often a place is due, with and without the file
    due_removed : (k : ℕ) (ws : List SlotData) → ws ≡ remove s.window i → times k (due s) ≡ times k (p ∷ []) + times k (places_begun ws ++ s.waiting)
    due_removed k ws e =
        let all = times_append k (places_begun s.window) s.waiting in
        let left = times_append k (places_begun (remove s.window i)) s.waiting in
        let one = times_removed k s.window i p stage slot in
        let due_is : times k (due s) ≡ times k (p ∷ []) + times k (places_begun (remove s.window i) ++ s.waiting) = omega (arith, all, left, one) in
        due_is ∙ ap (λ (vs : List SlotData). times k (p ∷ []) + times k (places_begun vs ++ s.waiting)) (sym e)

    moved_skipped : Moved s (left_out s i) [] []
    moved_skipped = record {
      passed = [];
      skipped = p ∷ [];
      each = λ k. let e = due_removed k (remove s.window i) refl in omega (arith, e);
      count = omega arith;
      order = λ o. part_removed s.window i s.waiting;
      ordered = refl;
      rise = omega arith;
      few = λ l. let n = shorter s.window i in omega (arith, l, n);
      opens = λ j. refl;
      first = λ f. first_removed (is_open (s.source).children) s.window i s.waiting f;
    }

    moved_passed : Moved s (delivered_at s i) [] []
    moved_passed = record {
      passed = p ∷ [];
      skipped = [];
      each = λ k. let e = due_removed k (remove s.window i) refl in omega (arith, e);
      count = omega arith;
      order = λ o. part_removed s.window i s.waiting;
      ordered = refl;
      rise = omega arith;
      few = λ l. let n = shorter s.window i in omega (arith, l, n);
      opens = λ j. refl;
      first = λ f. first_removed (is_open (s.source).children) s.window i s.waiting f;
    }

    -- a file that is delivered in its turn
    first_due : (ws : List SlotData) (j : ℕ) → j ≡ 0 → slice_get ws j ≡ Some (slot_data p stage) → p ∷ (places_begun (remove ws j) ++ s.waiting) ≡ places_begun ws ++ s.waiting
    first_due [] j e h = absurd cc
    first_due (w ∷ ws) zero e h = let inner : w ≡ slot_data p stage = cc in ap (λ (q : ℕ). q ∷ (places_begun ws ++ s.waiting)) (sym (ap (λ (z : SlotData). z.place) inner))
    first_due (w ∷ ws) (suc j) e h = absurd (omega (arith, e))

    in_turn : is_turn s i ≡ true → (s.request).ordered ≡ true → i ≡ 0
    in_turn t o = go (s.request).ordered o t
      where
        go : (b : Bool) → b ≡ true → (not b || i == 0) ≡ true → i ≡ 0
        go true e h = grind (arith, nat_tests, h)
        go false e h = absurd cc

    moved_delivered : (new : MultiScan O) (numbers : List ℕ) → new.window ≡ remove s.window i → new.waiting ≡ s.waiting → new.request ≡ s.request → new.source ≡ s.source → new.delivered ≡ s.delivered + 1
        → is_turn s i ≡ true → RiseUpTo s.delivered numbers (s.delivered + 1) → Moved s new (p ∷ []) numbers
    moved_delivered new numbers w ks q source d turn rise =
        let same : due new ≡ places_begun (remove s.window i) ++ s.waiting = ap (λ (ws : List SlotData). places_begun ws ++ new.waiting) w ∙ ap (λ (ls : List ℕ). places_begun (remove s.window i) ++ ls) ks in
        record {
          passed = [];
          skipped = [];
          each = λ k. let e = due_removed k (remove s.window i) refl in let f = ap (times k) same in omega (arith, e, f);
          count = omega (arith, d);
          order = λ o. part_same (p ∷ due new) (due s) (ap (λ (ls : List ℕ). p ∷ ls) same ∙ first_due s.window i (in_turn turn o) slot);
          ordered = ap (λ (r : BoundScanRequest). r.ordered) q;
          rise = subst (RiseUpTo s.delivered numbers) (sym d) rise;
          few = λ l. let n = ap length w in let m = shorter s.window i in let c = ap (λ (z : MultiData O). z.concurrency) source in omega (arith, l, n, m, c);
          opens = λ j. ap (λ (z : MultiData O). is_open z.children j) source;
          first = λ f. subst (StandFirst (is_open (s.source).children)) (sym same) (first_removed (is_open (s.source).children) s.window i s.waiting f);
        }

    -- ---- a step without an answer, after the look
    opened_passes : (b : Bool) (new : MultiScan O) (l : Layout) → PassesOpened b s new i p l → Moved s new [] []
    opened_passes true new l h = subst (λ (z : MultiScan O). Moved s z [] []) (sym h.2) moved_passed
    opened_passes false new l h = subst (λ (z : MultiScan O). Moved s z [] []) (sym h) (moved_kept (file.opened l))

    pub moved_passes : (new : MultiScan O) (f : Found) → Passes s new i p f → Moved s new [] []
    moved_passes new asks.waits h = subst (λ (z : MultiScan O). Moved s z [] []) (sym h) (moved_none s)
    moved_passes new asks.short h = absurd h
    moved_passes new asks.skipped h = subst (λ (z : MultiScan O). Moved s z [] []) (sym h) moved_skipped
    moved_passes new (asks.found l) h = opened_passes (is_turn s i) new l h
    moved_passes new asks.fails h = subst (λ (z : MultiScan O). Moved s z [] []) (sym h.1) (moved_kept file.failed)

    -- ---- an answer
    one_number : RiseUpTo s.delivered (s.delivered ∷ []) (s.delivered + 1)
    one_number = (omega arith, omega arith)

    delivers : (numbers : List ℕ) → is_turn s i ≡ true → RiseUpTo s.delivered numbers (s.delivered + 1) → Moved s (delivered_at s i) (p ∷ []) numbers
    delivers numbers turn rise = moved_delivered (delivered_at s i) numbers refl refl refl refl refl turn rise

    -- a refusal tells the place of the file
    past_place : (b : Bool) (f : MultiFault) → past_fault p b ≡ Some f → fault_places f ≡ p ∷ []
    past_place true f h = let e : f ≡ fault.RowRange p = cc in ap fault_places e
    past_place false f h = absurd cc

    form_place : (o : Option LayoutFault) (b : Bool) (f : MultiFault) → form_fault p o b ≡ Some f → fault_places f ≡ p ∷ []
    form_place None b f h = past_place b f h
    form_place (Some x) b f h = let e : f ≡ fault.Layout p x = cc in ap fault_places e

    typed_place : (t : Bool) (o : Option LayoutFault) (b : Bool) (f : MultiFault) → typed_fault p t o b ≡ Some f → fault_places f ≡ p ∷ []
    typed_place true o b f h = form_place o b f h
    typed_place false o b f h = let e : f ≡ fault.DTypeMismatch p = cc in ap fault_places e

    many_place : (b : Bool) (f : MultiFault) → many_fault p b ≡ Some f → fault_places f ≡ p ∷ []
    many_place true f h = let e : f ≡ fault.TooManyRows p = cc in ap fault_places e
    many_place false f h = absurd cc

    either_place : (x y : Option MultiFault) (f : MultiFault) → ((g : MultiFault) → x ≡ Some g → fault_places g ≡ p ∷ []) → ((g : MultiFault) → y ≡ Some g → fault_places g ≡ p ∷ []) → first_of x y ≡ Some f → fault_places f ≡ p ∷ []
    either_place None y f a b h = b f h
    either_place (Some g) y f a b h = a f h

    refusal_place : (l : Layout) (f : MultiFault) → refusal s p l ≡ Some f → fault_places f ≡ p ∷ []
    refusal_place l f why =
        let d = (s.source).dtype in
        let range = (s.request).row_range in
        let many = is_given s.numbers s.delivered && is_too_many s.seat s.given_rows (rows_of l) in
        either_place (file_fault d range p l) (many_fault p many) f
        (λ g. typed_place (same_type (dtype_of l) d) (first_fault l d) (ends_past range (rows_of l)) g)
        (λ g. many_place many g) why

    answers_fault : (l : Layout) (f : MultiFault) (new : MultiScan O) → is_turn s i ≡ true → refusal s p l ≡ Some f → new ≡ delivered_at s i → Moved s new (fault_places f) []
    answers_fault l f new turn why now =
        subst (λ (ps : List ℕ). Moved s new ps []) (sym (refusal_place l f why)) (subst (λ (z : MultiScan O). Moved s z (p ∷ []) []) (sym now) (delivers [] turn (omega arith)))

    gives : (l : Layout) (r : PartitionPoll) (new : MultiScan O) → is_turn s i ≡ true → GivesOpened s new i p l r → Moved s new (places_in r) (numbers_in r)
    gives l poll.Pending new turn h = absurd h
    gives l (poll.Partition q) new turn h =
        let is = h.2 in
        let made : Moved s (given_at s i l) (p ∷ []) (s.delivered ∷ []) = moved_delivered (given_at s i l) (s.delivered ∷ []) refl refl refl refl refl turn one_number in
        subst (λ (z : MultiScan O). Moved s z (q.child ∷ []) (q.index ∷ [])) (sym h.3)
        (subst (λ (z : ℕ × ℕ). Moved s (given_at s i l) (z.0 ∷ []) (z.1 ∷ [])) (λ j. (sym is.child j, sym is.index j)) made)
    gives l poll.End new turn h = absurd h
    gives l (poll.Fault fault.NoMemory) new turn h = subst (λ (z : MultiScan O). Moved s z [] []) (sym h) (moved_kept (file.opened l))
    gives l (poll.Fault (fault.Opener k)) new turn h = answers_fault l (fault.Opener k) new turn h.0 h.1
    gives l (poll.Fault (fault.DTypeMismatch k)) new turn h = answers_fault l (fault.DTypeMismatch k) new turn h.0 h.1
    gives l (poll.Fault (fault.Layout k x)) new turn h = answers_fault l (fault.Layout k x) new turn h.0 h.1
    gives l (poll.Fault (fault.RowRange k)) new turn h = answers_fault l (fault.RowRange k) new turn h.0 h.1
    gives l (poll.Fault (fault.TooManyRows k)) new turn h = answers_fault l (fault.TooManyRows k) new turn h.0 h.1

    pub moved_answers : (new : MultiScan O) (f : Found) (r : PartitionPoll) → Answers s new i p f r → Moved s new (places_in r) (numbers_in r)
    moved_answers new asks.waits r h = absurd h
    moved_answers new asks.short r h = subst (λ (z : PartitionPoll). Moved s new (places_in z) (numbers_in z)) (sym h.0) (subst (λ (z : MultiScan O). Moved s z [] []) (sym h.1) (moved_none s))
    moved_answers new asks.skipped r h = absurd h
    moved_answers new (asks.found l) r h = gives l r new h.0 h.1
    moved_answers new asks.fails r h =
        subst (λ (z : PartitionPoll). Moved s new (places_in z) (numbers_in z)) (sym h.1) (subst (λ (z : MultiScan O). Moved s z (p ∷ []) []) (sym h.2) (delivers [] h.0 (omega arith)))

    -- ---- the file that an answer is about is due no more
    pub record IsGone (new : MultiScan O) (places : List ℕ) : Type 0 where
      pub place : places ≡ p ∷ []
      pub window : new.window ≡ remove s.window i
      pub waiting : new.waiting ≡ s.waiting
      pub source : new.source ≡ s.source
      pub turn : is_turn s i ≡ true

    now_gone : (new : MultiScan O) (places : List ℕ) → places ≡ p ∷ [] → new ≡ delivered_at s i → is_turn s i ≡ true → IsGone new places
    now_gone new places is now turn = record {
      place = is;
      window = ap (λ (z : MultiScan O). z.window) now;
      waiting = ap (λ (z : MultiScan O). z.waiting) now;
      source = ap (λ (z : MultiScan O). z.source) now;
      turn = turn;
    }

    gone_fault : (l : Layout) (f : MultiFault) (new : MultiScan O) → is_turn s i ≡ true → FailsOpened s new i p l f → (fault_places f ≡ []) ⊎ IsGone new (fault_places f)
    gone_fault l fault.NoMemory new turn h = inl refl
    gone_fault l (fault.Opener k) new turn h = inr (now_gone new (k ∷ []) (refusal_place l (fault.Opener k) h.0) h.1 turn)
    gone_fault l (fault.DTypeMismatch k) new turn h = inr (now_gone new (k ∷ []) (refusal_place l (fault.DTypeMismatch k) h.0) h.1 turn)
    gone_fault l (fault.Layout k x) new turn h = inr (now_gone new (k ∷ []) (refusal_place l (fault.Layout k x) h.0) h.1 turn)
    gone_fault l (fault.RowRange k) new turn h = inr (now_gone new (k ∷ []) (refusal_place l (fault.RowRange k) h.0) h.1 turn)
    gone_fault l (fault.TooManyRows k) new turn h = inr (now_gone new (k ∷ []) (refusal_place l (fault.TooManyRows k) h.0) h.1 turn)

    gone_opened : (l : Layout) (r : PartitionPoll) (new : MultiScan O) → is_turn s i ≡ true → GivesOpened s new i p l r → (places_in r ≡ []) ⊎ IsGone new (places_in r)
    gone_opened l poll.Pending new turn h = absurd h
    gone_opened l (poll.Partition q) new turn h =
        let is = h.2 in
        inr (record {
          place = ap (λ k. k ∷ []) is.child;
          window = ap (λ (z : MultiScan O). z.window) h.3;
          waiting = ap (λ (z : MultiScan O). z.waiting) h.3;
          source = ap (λ (z : MultiScan O). z.source) h.3;
          turn = turn;
        })
    gone_opened l poll.End new turn h = absurd h
    gone_opened l (poll.Fault f) new turn h = gone_fault l f new turn h

    pub gone : (new : MultiScan O) (f : Found) (r : PartitionPoll) → Answers s new i p f r → (places_in r ≡ []) ⊎ IsGone new (places_in r)
    gone new asks.waits r h = absurd h
    gone new asks.short r h = inl (ap places_in h.0)
    gone new asks.skipped r h = absurd h
    gone new (asks.found l) r h = gone_opened l r new h.0 h.1
    gone new asks.fails r h = inr (now_gone new (places_in r) (ap places_in h.1) h.2 h.0)

    -- no file that was handed in opened is due then, where this one was not
    pub gone_none : (new : MultiScan O) (places : List ℕ) → IsGone new places → NoneBefore s i → OpenFirst s → is_open (s.source).children p ≡ false → NoneOpen new
    gone_none new places g before first closed =
        let t = is_open (s.source).children in
        let same : due new ≡ places_begun (remove s.window i) ++ s.waiting = ap (λ (ws : List SlotData). places_begun ws ++ new.waiting) g.window ∙ ap (λ (ls : List ℕ). places_begun (remove s.window i) ++ ls) g.waiting in
        let left = none_left t s.window i p stage s.waiting slot closed (in_any_order (s.request).ordered refl) first in
        ap (λ (z : MultiData O). list_any (is_open z.children) (due new)) g.source ∙ ap (λ ks. list_any t ks) same ∙ left
      where
        in_any_order : (b : Bool) → (s.request).ordered ≡ b → list_any (λ (w : SlotData). is_open (s.source).children w.place) (take i s.window) ≡ false
        in_any_order true o = let e = in_turn g.turn o in subst (λ n. list_any (λ (w : SlotData). is_open (s.source).children w.place) (take n s.window) ≡ false) (sym e) (any_none (λ (w : SlotData). is_open (s.source).children w.place) s.window)
        in_any_order false o = before o
