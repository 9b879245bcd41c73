-- Splits are divided among workers, and gathered again.
use Rattle.std.proofs.Common.{◌≡◌, ◌<◌, ◌∙◌, ℕ, zero, suc, List, [], ◌∷◌, ◌++◌, length, get_or, take, drop, Result, Ok, Err, IfOk, OnOk, append_assoc, append-nil, refl, sym, ap, subst, arith}
use Rattle.std.specs.Prelude.{None}
use Rattle.std.specs.List.{AllZip}
use Rattle.std.proofs.lemmas.List.{take-append-drop}
use Rattle.std.proofs.lemmas.List.Elements.{AllZip-get_or, length_all_zip}
use Rattle.scan_segments.specs.Source.{Store}
use Rattle.scan_splits.specs.Arrivals.{Arrivals}
use Rattle.scan_drive.specs.Batches.{BatchWorked, splits_in}
use Rattle.scan_drive.specs.Claimed.{JobWorked}
use Rattle.scan_drive.specs.Splits.{SplitState, Event}
use Rattle.scan_drive.specs.Workers.{JobPolled}
use Rattle.scan_drive.specs.declared.batch.Batch.{Batch}
use Rattle.scan_drive.specs.declared.workers.Job.{Job}
use Rattle.scan_drive.proofs.Claiming.{worked_polled}

module _ {X : Type 0} (P : X → X → Type 0) where
  -- what holds at each place of two lists that are as long
  pub zip_of : (xs ys : List X) → length ys ≡ length xs → ((i : ℕ) (d : X) → i < length xs → P (get_or xs i d) (get_or ys i d)) → AllZip P xs ys
  zip_of [] [] n h = tt
  zip_of [] (y ∷ ys) n h = absurd (omega (arith, n))
  zip_of (x ∷ xs) [] n h = absurd (omega (arith, n))
  zip_of (x ∷ xs) (y ∷ ys) n h = (h 0 x (omega arith), zip_of xs ys (omega (arith, n)) (λ i d lt. h (suc i) d (omega (arith, lt))))

  zip_append : (xs ys us vs : List X) → AllZip P xs ys → AllZip P us vs → AllZip P (xs ++ us) (ys ++ vs)
  zip_append [] [] us vs a b = b
  zip_append [] (y ∷ ys) us vs a b = absurd a
  zip_append (x ∷ xs) [] us vs a b = absurd a
  zip_append (x ∷ xs) (y ∷ ys) us vs a b = (a.0, zip_append xs ys us vs a.1 b)

  pub zip_none : (xs : List X) → xs ≡ [] → AllZip P xs xs
  zip_none xs e = subst (λ (ys : List X). AllZip P ys ys) (sym e) tt

module _ {W R : Type 0} where
  splits_snoc : (bs : List (Batch W R)) (b : Batch W R) → splits_in (bs ++ b ∷ []) ≡ b.jobs.items ++ splits_in bs
  splits_snoc [] b = sym (append-nil b.jobs.items)
  splits_snoc (a ∷ bs) b = ap (λ (js : List (Job W R)). js ++ a.jobs.items) (splits_snoc bs b) ∙ append_assoc b.jobs.items (splits_in bs) a.jobs.items

  -- the last splits are taken off
  pub last_off : (bs bs' : List (Batch W R)) (b : Batch W R) (jobs left all : List (Job W R)) (at : ℕ) → bs' ≡ bs ++ b ∷ [] → b.jobs.items ≡ drop at jobs → left ≡ take at jobs
      → jobs ++ splits_in bs ≡ all → left ++ splits_in bs' ≡ all
  last_off bs bs' b jobs left all at e d t h =
      let more : splits_in bs' ≡ drop at jobs ++ splits_in bs = ap splits_in e ∙ splits_snoc bs b ∙ ap (λ (js : List (Job W R)). js ++ splits_in bs) d in
      ap (λ (js : List (Job W R)). js ++ splits_in bs') t ∙ ap (λ (js : List (Job W R)). take at jobs ++ js) more ∙ sym (append_assoc (take at jobs) (drop at jobs) (splits_in bs))
      ∙ ap (λ (js : List (Job W R)). js ++ splits_in bs) (take-append-drop at jobs) ∙ h

  -- the first splits are a batch too
  pub all_off : (bs bs' : List (Batch W R)) (b : Batch W R) (jobs all : List (Job W R)) → bs' ≡ bs ++ b ∷ [] → b.jobs.items ≡ jobs → jobs ++ splits_in bs ≡ all → splits_in bs' ≡ all
  all_off bs bs' b jobs all e j h = ap splits_in e ∙ splits_snoc bs b ∙ ap (λ (js : List (Job W R)). js ++ splits_in bs) j ∙ h

  -- the splits of the last batch come first
  pub batch_first : (bs bs' : List (Batch W R)) (b : Batch W R) → bs ≡ bs' ++ b ∷ [] → b.jobs.items ++ splits_in bs' ≡ splits_in bs
  batch_first bs bs' b e = sym (ap splits_in e ∙ splits_snoc bs' b)

  -- the splits of the last batch are moved
  pub batch_moved : (bs bs' : List (Batch W R)) (b : Batch W R) (jobs jobs' all : List (Job W R)) → bs ≡ bs' ++ b ∷ [] → jobs' ≡ jobs ++ b.jobs.items
      → jobs ++ splits_in bs ≡ all → jobs' ++ splits_in bs' ≡ all
  batch_moved bs bs' b jobs jobs' all e j h =
      ap (λ (js : List (Job W R)). js ++ splits_in bs') j ∙ append_assoc jobs b.jobs.items (splits_in bs') ∙ ap (λ (js : List (Job W R)). jobs ++ js) (sym (ap splits_in e ∙ splits_snoc bs' b)) ∙ h

  -- all are moved
  pub all_moved : (bs : List (Batch W R)) (jobs all : List (Job W R)) → bs ≡ [] → jobs ++ splits_in bs ≡ all → jobs ≡ all
  all_moved bs jobs all e h = sym (append-nil jobs) ∙ ap (λ (js : List (Job W R)). jobs ++ js) (sym (ap splits_in e)) ∙ h

module _ {W I R : Type 0} (split : W → SplitState I) (comes : W → Arrivals → Store → Event → Type 0) (items : R → List I) where
  zip_splits : (bs cs : List (Batch W R)) → AllZip (BatchWorked split comes items) bs cs → AllZip (JobWorked split comes items None) (splits_in bs) (splits_in cs)
  zip_splits [] [] h = tt
  zip_splits [] (c ∷ cs) h = absurd h
  zip_splits (b ∷ bs) [] h = absurd h
  zip_splits (b ∷ bs) (c ∷ cs) h = zip_append (JobWorked split comes items None) (splits_in bs) (splits_in cs) b.jobs.items c.jobs.items (zip_splits bs cs h.1) h.0

  -- what batches come to, once their splits are gathered
  pub zip_gathered : (bs cs : List (Batch W R)) (js ks : List (Job W R)) → splits_in bs ≡ js → ks ≡ splits_in cs → AllZip (BatchWorked split comes items) bs cs → AllZip (JobWorked split comes items None) js ks
  zip_gathered bs cs js ks e f h =
      subst (λ (xs : List (Job W R)). AllZip (JobWorked split comes items None) xs ks) e (subst (AllZip (JobWorked split comes items None) (splits_in bs)) (sym f) (zip_splits bs cs h))

  pub zip_ok : {V E : Type 0} (of : V → List (Job W R)) (r : Result V E) (bs cs : List (Batch W R)) (js : List (Job W R)) → splits_in bs ≡ js → IfOk r (λ v. of v ≡ splits_in cs)
      → AllZip (BatchWorked split comes items) bs cs → IfOk r (λ v. AllZip (JobWorked split comes items None) js (of v))
  zip_ok of (Ok v) bs cs js e f h = zip_gathered bs cs js (of v) e f h
  zip_ok of (Err x) bs cs js e f h = tt

-- what holds where it is looked at only after an Ok
pub still_ok : {V E : Type 0} (r : Result V E) (P : Type 0) → P → OnOk r P
still_ok (Ok v) P p = p
still_ok (Err e) P p = tt

module _ {W I R : Type 0} (split : W → SplitState I) (comes : W → Arrivals → Store → Event → Type 0) (items : R → List I) where
  -- each was polled
  pub zip_polled : (js ks : List (Job W R)) → AllZip (JobWorked split comes items None) js ks → (i : ℕ) (d : Job W R) → i < length js → JobPolled split comes items (get_or js i d) (get_or ks i d)
  zip_polled js ks h i d lt = worked_polled split comes items (get_or js i d) (get_or ks i d) (AllZip-get_or (JobWorked split comes items None) js ks i d d h lt)

  pub zip_long : (js ks : List (Job W R)) → AllZip (JobWorked split comes items None) js ks → length ks ≡ length js
  zip_long js ks h = sym (length_all_zip (JobWorked split comes items None) js ks h)
