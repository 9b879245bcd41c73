-- Each event of the locked state keeps what the lock keeps.
use Rattle.std.proofs.Common.{◌≡◌, ℕ, ◌+◌, ◌-◌, ◌≤◌, List, [], ◌∷◌, ◌++◌, Bool, true, false, cond, eqb, Option, Some, None, is_none, refl, sym, ap, ◌∙◌, subst, ⊎_elim, arith}
use Rattle.std.proofs.lemmas.Bool.Decides.{nat_tests}
use Rattle.std.specs.Option.{option_map}
use Rattle.scan_segments.specs.Source.{SourceState, without}
use Rattle.scan_sharing.specs.declared.holder.SharedAnswer.{SharedAnswer as Answer}
use Rattle.scan_sharing.specs.declared.holder.SharedAnswer.TheVariants as answer
use Rattle.scan_sharing.specs.declared.holder.SharedKind.{SharedKind as Kind}
use Rattle.scan_sharing.specs.Sharing.{after, replay_from, replay, May, IsLawfulFrom, Held, Table, no_entries, joined, answered, left, kept, with_holder, without_holder, is_held, is_live, answer_of, entry_at, owed, Same, Agree}
use Rattle.scan_sharing.specs.SharedTables.{IsFound, Arrives, Polls}
use Rattle.scan_sharing.specs.Kinds.{kind_of, kind_in, kinds, came}
use Rattle.scan_sharing.specs.declared.holder.SharedEvent.{SharedEvent}
use Rattle.scan_sharing.specs.declared.holder.SharedEvent.TheVariants.{Requested, Arrived, Dropped}
use Rattle.scan_sharing.specs.Locks.{IsKept}

abbrev Event : Type 0
Event = SharedEvent Kind

replay_snoc : (t : Table Kind) (es : List Event) (e : Event) → replay_from t (es ++ e ∷ []) ≡ after e (replay_from t es)
replay_snoc t [] e = refl
replay_snoc t (x ∷ xs) e = replay_snoc (after x t) xs e

lawful_snoc : (t : Table Kind) (es : List Event) (e : Event) → IsLawfulFrom t es → May (replay_from t es) e → IsLawfulFrom t (es ++ e ∷ [])
lawful_snoc t [] e l m = (m, tt)
lawful_snoc t (x ∷ xs) e l m = (l.0, lawful_snoc (after x t) xs e l.1 m)

kinds_if : (b : Bool) (x y : Option (Held Answer)) → kinds (cond b x y) ≡ cond b (kinds x) (kinds y)
kinds_if true x y = refl
kinds_if false x y = refl

kinds_joined : (n : ℕ) (e : Option (Held Answer)) → kinds (Some (joined n e)) ≡ Some (joined n (kinds e))
kinds_joined n None = refl
kinds_joined n (Some e) = refl

kinds_answered : (a : Answer) (e : Option (Held Answer)) → kinds (answered a e) ≡ answered (kind_of a) (kinds e)
kinds_answered a None = refl
kinds_answered a (Some e) = refl

kinds_kept : (ns : List ℕ) (a : Option Answer) → kinds (kept ns a) ≡ kept ns (option_map kind_of a)
kinds_kept [] a = refl
kinds_kept (n ∷ ns) a = refl

kinds_left : (n : ℕ) (e : Option (Held Answer)) → kinds (left n e) ≡ left n (kinds e)
kinds_left n None = refl
kinds_left n (Some e) = kinds_kept (without n e.holders) e.answer

held_kinds : (n : ℕ) (e : Option (Held Answer)) → is_held n (kinds e) ≡ is_held n e
held_kinds n None = refl
held_kinds n (Some e) = refl

none_map : (o : Option Answer) → is_none (option_map kind_of o) ≡ is_none o
none_map None = refl
none_map (Some a) = refl

live_kinds : (e : Option (Held Answer)) → is_live (kinds e) ≡ is_live e
live_kinds None = refl
live_kinds (Some e) = none_map e.answer

-- a choice at one id, of what follows from the entries there
chosen : {T : Type 0} (i id : ℕ) (f : ℕ → T) (x : T) → x ≡ f id → cond (eqb i id) x (f i) ≡ f i
chosen {T} i id f x is = go (eqb i id) refl
  where
    go : (b : Bool) → eqb i id ≡ b → cond (eqb i id) x (f i) ≡ f i
    go true q = let same : i ≡ id = grind (arith, nat_tests) in rw q (is ∙ sym (ap f same))
    go false q = rw q refl

-- a table with one entry put anew, and the same of the kinds
put_kinds : (t u : Table Answer) (k : Table Kind) (id : ℕ) (x : Option (Held Answer)) (y : Option (Held Kind)) → ((i : ℕ) → u i ≡ cond (eqb i id) x (t i)) → ((i : ℕ) → kinds (t i) ≡ k i) → kinds x ≡ y → (i : ℕ) → kinds (u i) ≡ cond (eqb i id) y (k i)
put_kinds t u k id x y step is same i = ap kinds (step i) ∙ kinds_if (eqb i id) x (t i) ∙ (λ j. cond (eqb i id) (same j) (is i j))

answer_if : (b : Bool) (x y : Option (Held Answer)) → answer_of (cond b x y) ≡ cond b (answer_of x) (answer_of y)
answer_if true x y = refl
answer_if false x y = refl

answer_joined : (n : ℕ) (e : Option (Held Answer)) → answer_of (Some (joined n e)) ≡ answer_of e
answer_joined n None = refl
answer_joined n (Some e) = refl

module _ (fits : ℕ → List ℕ → Type 0) where
  pub keeps-request : (live live' : ℕ → Bool) (s t : List (ℕ × Held Answer)) (h : List Event) (spare id n : ℕ) → IsKept fits live s h spare
      → Same (entry_at t) (with_holder n id (entry_at s)) → ((i : ℕ) → is_held n (entry_at s i) ≡ false) → Agree live' (entry_at t) → owed t ≤ owed s + 2 → IsKept fits live' t (h ++ Requested id n ∷ []) (spare + 2)
  keeps-request live live' s t h spare id n k step fresh agree owes =
      let room = k.room in
      record {
        lawful = lawful_snoc no_entries h (Requested id n) k.lawful (ap (is_held n) (sym (k.replays id)) ∙ held_kinds n (entry_at s id) ∙ fresh id);
        replays = λ i. put_kinds (entry_at s) (entry_at t) (replay h) id (Some (joined n (entry_at s id))) (Some (joined n (replay h id))) step k.replays
            (kinds_joined n (entry_at s id) ∙ ap (λ e. Some (joined n e)) (k.replays id)) i
            ∙ sym (ap (λ (f : Table Kind). f i) (replay_snoc no_entries h (Requested id n)));
        agrees = agree;
        fit = λ i b is. k.fit i b (sym (ap answer_of (step i) ∙ answer_if (eqb i id) (Some (joined n (entry_at s id))) (entry_at s i) ∙ chosen i id (λ j. answer_of (entry_at s j)) (answer_of (Some (joined n (entry_at s id)))) (answer_joined n (entry_at s id))) ∙ is);
        room = omega arith;
      }

  put_at : (t u : Table Answer) (id : ℕ) (x : Option (Held Answer)) → ((i : ℕ) → u i ≡ cond (eqb i id) x (t i)) → u id ≡ x
  put_at t u id x step = step id ∙ (let yes' : eqb id id ≡ true = grind (arith, nat_tests) in rw yes' refl)

  answer_there : (a : Answer) (e : Option (Held Answer)) → is_live e ≡ true → answer_of (answered a e) ≡ Some a
  answer_there a None l = absurd (cc)
  answer_there a (Some e) l = refl

  fits_bytes : (x y : SourceState) (id : ℕ) (a : Answer) (b : List ℕ) → IsFound fits id x y a → Some a ≡ Some (answer.Bytes b) → fits id b
  fits_bytes x y id (answer.Bytes c) b f is = let same : c ≡ b = cc in subst (fits id) same f.1
  fits_bytes x y id answer.Missing b f is = absurd (cc)
  fits_bytes x y id (answer.Failed n) b f is = absurd (cc)

  fits_put : (x y : SourceState) (s t : List (ℕ × Held Answer)) (id : ℕ) → ((i : ℕ) (b : List ℕ) → answer_of (entry_at s i) ≡ Some (answer.Bytes b) → fits i b) → (r : Arrives fits x y s t id) → (i : ℕ) (b : List ℕ) → answer_of (entry_at t i) ≡ Some (answer.Bytes b) → fits i b
  fits_put x y s t id old r i b is = go (eqb i id) refl
    where
      go : (c : Bool) → eqb i id ≡ c → fits i b
      go true q =
          let same : i ≡ id = grind (arith, nat_tests) in
          let here = put_at (entry_at s) (entry_at t) id (answered r.answer (entry_at s id)) r.step in
          let bytes : Some r.answer ≡ Some (answer.Bytes b) = sym (answer_there r.answer (entry_at s id) r.was_live) ∙ sym (ap answer_of here) ∙ ap (λ j. answer_of (entry_at t j)) (sym same) ∙ is in
          subst (λ j. fits j b) (sym same) (fits_bytes x y id r.answer b r.found bytes)
      go false q = old i b (sym (ap answer_of (r.step i) ∙ ap (λ c. answer_of (cond c (answered r.answer (entry_at s id)) (entry_at s i))) q) ∙ is)

  pub keeps-answer : (live live' : ℕ → Bool) (s t : List (ℕ × Held Answer)) (h : List Event) (spare id : ℕ) (x y : SourceState) → IsKept fits live s h spare → (r : Arrives fits x y s t id) → Agree live' (entry_at t) → IsKept fits live' t (h ++ Arrived id (kind_of r.answer) ∷ []) (spare - 1)
  keeps-answer live live' s t h spare id x y k r agree =
      let room = k.room in
      let lighter = r.lighter in
      record {
        lawful = lawful_snoc no_entries h (Arrived id (kind_of r.answer)) k.lawful (ap is_live (sym (k.replays id)) ∙ live_kinds (entry_at s id) ∙ r.was_live);
        replays = λ i. put_kinds (entry_at s) (entry_at t) (replay h) id (answered r.answer (entry_at s id))
            (answered (kind_of r.answer) (replay h id)) r.step k.replays
            (kinds_answered r.answer (entry_at s id) ∙ ap (answered (kind_of r.answer)) (k.replays id)) i
            ∙ sym (ap (λ (f : Table Kind). f i) (replay_snoc no_entries h (Arrived id (kind_of r.answer))));
        agrees = agree;
        fit = fits_put x y s t id k.fit r;
        room = omega arith;
      }

  pub keeps-same : (live live' : ℕ → Bool) (s t : List (ℕ × Held Answer)) (h : List Event) (spare : ℕ) → IsKept fits live s h spare → t ≡ s → Agree live' (entry_at t) → IsKept fits live' t h spare
  keeps-same live live' s t h spare k is agree =
      subst (λ (x : List (ℕ × Held Answer)). IsKept fits live' x h spare) (sym is)
      (record { lawful = k.lawful; replays = k.replays; agrees = subst (λ (x : List (ℕ × Held Answer)). Agree live' (entry_at x)) is agree; fit = k.fit; room = k.room })

  -- what is left of an entry keeps its answer
  left_answer : (n : ℕ) (e : Option (Held Answer)) (b : List ℕ) → answer_of (left n e) ≡ Some (answer.Bytes b) → answer_of e ≡ Some (answer.Bytes b)
  left_answer n None b is = is
  left_answer n (Some e) b is = go (without n e.holders) is
    where
      go : (ns : List ℕ) → answer_of (kept ns e.answer) ≡ Some (answer.Bytes b) → e.answer ≡ Some (answer.Bytes b)
      go [] h = absurd (cc)
      go (m ∷ ms) h = h

  pub keeps-drop : (live live' : ℕ → Bool) (s t : List (ℕ × Held Answer)) (h : List Event) (spare id n : ℕ) → IsKept fits live s h spare
      → Same (entry_at t) (without_holder n id (entry_at s)) → is_held n (entry_at s id) ≡ true → Agree live' (entry_at t) → owed t + 1 ≤ owed s
      → IsKept fits live' t (h ++ Dropped id n ∷ []) (spare - 1)
  keeps-drop live live' s t h spare id n k step held agree owes =
      let room = k.room in
      record {
        lawful = lawful_snoc no_entries h (Dropped id n) k.lawful (ap (is_held n) (sym (k.replays id)) ∙ held_kinds n (entry_at s id) ∙ held);
        replays = λ i. put_kinds (entry_at s) (entry_at t) (replay h) id (left n (entry_at s id)) (left n (replay h id)) step k.replays (kinds_left n (entry_at s id) ∙ ap (left n) (k.replays id)) i ∙ sym (ap (λ (f : Table Kind). f i) (replay_snoc no_entries h (Dropped id n)));
        agrees = agree;
        fit = λ i b is. go i b (eqb i id) refl is;
        room = omega arith;
      }
    where
      go : (i : ℕ) (b : List ℕ) (c : Bool) → eqb i id ≡ c → answer_of (entry_at t i) ≡ Some (answer.Bytes b) → fits i b
      go i b true q is = let same : i ≡ id = grind (arith, nat_tests) in k.fit i b (ap (λ j. answer_of (entry_at s j)) same ∙ left_answer n (entry_at s id) b (sym (ap answer_of (step i) ∙ ap (λ c. answer_of (cond c (left n (entry_at s id)) (entry_at s i))) q) ∙ is))
      go i b false q is = k.fit i b (sym (ap answer_of (step i) ∙ ap (λ c. answer_of (cond c (left n (entry_at s id)) (entry_at s i))) q) ∙ is)

  kind_there : (a : Answer) (e : Option (Held Answer)) → is_live e ≡ true → kind_in (answered a e) ≡ Some (kind_of a)
  kind_there a None l = absurd (cc)
  kind_there a (Some e) l = refl

  no_kind : (e : Option (Held Answer)) → is_live e ≡ true → kind_in e ≡ None
  no_kind None l = absurd (cc)
  no_kind (Some e) l = go e.answer l
    where
      go : (o : Option Answer) → is_none o ≡ true → option_map kind_of o ≡ None
      go None l = refl
      go (Some a) l = absurd (cc)

  came_same : (k : Option Kind) → came k k ≡ None
  came_same None = refl
  came_same (Some k) = refl

  came_new : (x y : SourceState) (s t : List (ℕ × Held Answer)) (id : ℕ) (r : Arrives fits x y s t id) → came (kind_in (entry_at s id)) (kind_in (entry_at t id)) ≡ Some (kind_of r.answer)
  came_new x y s t id r =
      ap (λ k. came k (kind_in (entry_at t id))) (no_kind (entry_at s id) r.was_live)
      ∙ ap kind_in (put_at (entry_at s) (entry_at t) id (answered r.answer (entry_at s id)) r.step) ∙ kind_there r.answer (entry_at s id) r.was_live

  -- where a kind has come, the answer of the id has arrived, and is of that kind
  pub arrives : (x y : SourceState) (s t : List (ℕ × Held Answer)) (id : ℕ) (k : Kind) → Polls fits x y s t id → came (kind_in (entry_at s id)) (kind_in (entry_at t id)) ≡ Some k → (r : Arrives fits x y s t id) × (k ≡ kind_of r.answer)
  arrives x y s t id k p is = ⊎_elim
      (λ p. absurd (let no_one = ap (λ (x : List (ℕ × Held Answer)). came (kind_in (entry_at s id)) (kind_in (entry_at x id))) p.0 ∙ came_same (kind_in (entry_at s id)) in let e : Some k ≡ None = sym is ∙ no_one in cc))
      (λ (r : Arrives fits x y s t id). (r, (let e : Some k ≡ Some (kind_of r.answer) = sym is ∙ came_new x y s t id r in cc)))
      p

  pub no_arrival : (x y : SourceState) (s t : List (ℕ × Held Answer)) (id : ℕ) → Polls fits x y s t id → came (kind_in (entry_at s id)) (kind_in (entry_at t id)) ≡ None → t ≡ s
  no_arrival x y s t id p is = ⊎_elim (λ p. p.0) (λ (r : Arrives fits x y s t id). absurd (let e : Some (kind_of r.answer) ≡ None = sym (came_new x y s t id r) ∙ is in cc)) p
