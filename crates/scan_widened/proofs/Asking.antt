-- What an ask does to a source under another dtype.
use Rattle.std.proofs.Common.{◌≡◌, ℕ, ◌≤◌, List, [], ◌∷◌, ◌++◌, map, arith, refl, sym, subst, ap, ◌∙◌, Bool, true, false, Option, Some, None, append_assoc, IfSome, All, Contains, is_some, nat_eq, take, length, ◌-◌}
use Rattle.std.specs.Prelude.{option_map}
use Rattle.std.proofs.lemmas.Bool.{eqb-true}
use Rattle.std.proofs.lemmas.List.Elements.{All-weaker, All-push, All-contains, Contains-push, Contains-append_left}
use Rattle.scan_segments.specs.Source.{SourceState, with_live, Begins, Stays}
use Rattle.scan_sharing.specs.declared.holder.SharedAnswer.{SharedAnswer}
use Rattle.scan_sharing.specs.Sharing.{Held, entry_at}
use Rattle.scan_sharing.specs.SharedTables.{Asks}
use Rattle.scan_widen.specs.declared.behind.Behind.{Behind}
use Rattle.scan_widen.specs.Stores.{inner_id}
use Rattle.scan_widened.specs.declared.stage.Stage.{Stage}
use Rattle.scan_widened.specs.Identity.{UnionParts, union_state, first_asked, beside, code_of, marks, inner_of}
use Rattle.scan_widened.specs.Follows.{IsUnion, StandsBehind, HasInner}
use Rattle.scan_widened.specs.Sources.{has_stage, noted, Rests, IsTied}
use Rattle.scan_widened.proofs.Told.{keeps_first, rests_union}

abbrev pub parts : SourceState → ℕ → List Behind → List ℕ → List ℕ → (ℕ → Bool) → ℕ → UnionParts
parts s b behind asked own live n = record { inner = s; before = b; behind = behind; asked = asked; inner_asked = own; live = live; faults = n }

append_none : (xs : List ℕ) → xs ++ [] ≡ xs
append_none [] = refl
append_none (x ∷ xs) = ap (λ ys. x ∷ ys) (append_none xs)

-- one more is asked of the source over the file's own
pub begins : (s s' : SourceState) (b : ℕ) (behind : List Behind) (asked own own' : List ℕ) (live live' : ℕ → Bool) (n k : ℕ)
    → s'.holds ≡ s.holds → s'.turns ≤ s.turns → s'.can_fail ≡ s.can_fail → live' ≡ with_live k live
    → first_asked (parts s' b behind (asked ++ k ∷ []) own' live' n) ≡ first_asked (parts s b behind asked own live n)
    → Begins k (union_state (parts s b behind asked own live n)) (union_state (parts s' b behind (asked ++ k ∷ []) own' live' n))
begins s s' b behind asked own own' live live' n k holds turns can_fail lives first =
    let codes : List ℕ = map (λ x. code_of (inner_id x)) behind in
    record {
      holds = ap (λ h. option_map (beside behind) h) holds;
      asked = ap (λ f. marks b f codes ++ (asked ++ k ∷ [])) first ∙ sym (append_assoc (marks b (first_asked (parts s b behind asked own live n)) codes) asked (k ∷ []));
      live = lives;
      faults = omega arith;
      turns = turns;
      can_fail = can_fail;
    }

-- what is live was asked, with one more
since_more : (live live' : ℕ → Bool) (asked : List ℕ) (k : ℕ) → live' ≡ with_live k live → ((q : ℕ) → live q ≡ true → Contains asked q) → (q : ℕ) → live' q ≡ true → Contains (asked ++ k ∷ []) q
since_more live live' asked k e since q l = go (nat_eq q k) refl (sym (ap (λ (f : ℕ → Bool). f q) e) ∙ l)
  where
    go : (x : Bool) → nat_eq q k ≡ x → with_live k live q ≡ true → Contains (asked ++ k ∷ []) q
    go true p h = subst (λ z. Contains (asked ++ k ∷ []) z) (sym (eqb-true q k p)) (Contains-push asked k)
    go false p h = Contains-append_left asked (k ∷ []) q (since q (rw p at h))

-- the asks of both, with one more each, or with one more of the source over the file's own alone
module _ (s s' : SourceState) (b : ℕ) (behind : List Behind) (asked own : List ℕ) (live live' : ℕ → Bool) (n k : ℕ)
    (iu : IsUnion (parts s b behind asked own live n)) (lives : live' ≡ with_live k live) where
  pub record Asked (own' : List ℕ) : Type 0 where
    pub union : IsUnion (parts s' b behind (asked ++ k ∷ []) own' live' n)
    pub state : Begins k (union_state (parts s b behind asked own live n)) (union_state (parts s' b behind (asked ++ k ∷ []) own' live' n))

  more_asked : (ids : List ℕ) → s'.asked ≡ s.asked ++ ids → s'.holds ≡ s.holds → s.faults ≤ s'.faults → s'.turns ≤ s.turns → s'.can_fail ≡ s.can_fail
      → All (StandsBehind behind (asked ++ k ∷ [])) (own ++ ids) → HasInner behind (own ++ ids) k → Asked (own ++ ids)
  more_asked ids asks holds faults turns can_fail stands has =
      let kept = keeps_first (parts s b behind asked own live n) (parts s' b behind (asked ++ k ∷ []) (own ++ ids) live' n) ids iu asks refl in
      let low = iu.least in
      record {
        union = record {
          asks = kept.asks;
          behind = stands;
          each = All-push (HasInner behind (own ++ ids)) asked k (All-weaker (HasInner behind own) (HasInner behind (own ++ ids)) (λ q h. wider ids q (inner_of behind q) h) asked iu.each) has;
          since = since_more live live' asked k lives iu.since;
          least = omega (arith, low, faults);
          failed = λ f. let h = iu.failed f in (omega (arith, h.0, faults), can_fail ∙ h.1);
        };
        state = begins s s' b behind asked own (own ++ ids) live live' n k holds turns can_fail lives kept.first;
      }
    where
      wider : (xs : List ℕ) (q : ℕ) (o : Option ℕ) → IfSome o (λ id. Contains own id) → IfSome o (λ id. Contains (own ++ xs) id)
      wider xs q None h = tt
      wider xs q (Some id) h = Contains-append_left own xs id h

  older : (ids : List ℕ) → All (StandsBehind behind asked) ids → All (StandsBehind behind (asked ++ k ∷ [])) ids
  older ids h = All-weaker (StandsBehind behind asked) (StandsBehind behind (asked ++ k ∷ [])) (λ id w. (w.0, Contains-append_left asked (k ∷ []) w.0 w.1, w.2)) ids h

  -- one that was asked of the file's source too
  asked_anew : (i : ℕ) → inner_of behind k ≡ Some i → Begins i s s' → Asked (own ++ i ∷ [])
  asked_anew i at a = more_asked (i ∷ []) a.asked a.holds a.faults a.turns a.can_fail
      (All-push (StandsBehind behind (asked ++ k ∷ [])) own i (older own iu.behind) (k, Contains-push asked k, at))
      (subst (λ o. IfSome o (λ id. Contains (own ++ i ∷ []) id)) (sym at) (Contains-push own i))

  -- one for which nothing was
  asked_alone : s' ≡ s → HasInner behind own k → Asked own
  asked_alone same has =
      let asks : s'.asked ≡ s.asked ++ [] = ap (λ (x : SourceState). x.asked) same ∙ sym (append_none s.asked) in
      let f : s'.faults ≡ s.faults = ap (λ (x : SourceState). x.faults) same in
      let t : s'.turns ≡ s.turns = ap (λ (x : SourceState). x.turns) same in
      subst (λ xs. Asked xs) (append_none own) (more_asked [] asks (ap (λ (x : SourceState). x.holds) same) (omega (arith, f)) (omega (arith, t)) (ap (λ (x : SourceState). x.can_fail) same)
      (subst (λ xs. All (StandsBehind behind (asked ++ k ∷ [])) xs) (sym (append_none own)) (older own iu.behind)) (subst (λ xs. HasInner behind xs k) (sym (append_none own)) has))

  -- by the table
  pub asked_by : (o : Option (Held SharedAnswer)) (i : ℕ) → inner_of behind k ≡ Some i → (is_some o ≡ true → Contains own i) → Asks o i s s' → Asked (noted (is_some o) own i)
  asked_by None i at held a = asked_anew i at a
  asked_by (Some e) i at held a = asked_alone a (subst (λ x. IfSome x (λ id. Contains own id)) (sym at) (held refl))

  -- of which nothing stands in the file
  pub asked_made : inner_of behind k ≡ None → s' ≡ s → Asked own
  asked_made at same = asked_alone same (subst (λ x. IfSome x (λ id. Contains own id)) (sym at) tt)

-- the segment of an entry was asked of the file's source
pub was_asked : (s : SourceState) (b : ℕ) (behind : List Behind) (t : List (ℕ × Held SharedAnswer)) (st : List (ℕ × Stage)) (asked own : List ℕ) (n id : ℕ)
    → IsTied s b behind t st → IsUnion (parts s b behind asked own (has_stage st) n) → is_some (entry_at t id) ≡ true → Contains own id
was_asked s b behind t st asked own n id tied iu there =
    let one = tied.some id there in
    let staged = tied.each id one.0 one.1 in
    let live : has_stage st staged.0 ≡ true = ap is_some staged.1 in
    let inner = All-contains (HasInner behind own) asked staged.0 iu.each (iu.since staged.0 live) in
    subst (λ o. IfSome o (λ i. Contains own i)) (tied.is staged.0 _ staged.1) inner

abbrev pub union_asked : ℕ → List Behind → List ℕ → List ℕ → List ℕ → List ℕ
union_asked b behind asked own xs = marks b (take (length xs - length own) xs) (map (λ x. code_of (inner_id x)) behind) ++ asked

-- a request that was refused
pub record Refused (u v : UnionParts) : Type 0 where
  pub union : IsUnion v
  pub state : Stays (union_state u) (union_state v)

pub refused : (s s' : SourceState) (b : ℕ) (behind : List Behind) (asked own : List ℕ) (live live' : ℕ → Bool) (n : ℕ) → IsUnion (parts s b behind asked own live n) → live' ≡ live → Stays s s'
    → Refused (parts s b behind asked own live n) (parts s' b behind asked own live' n)
refused s s' b behind asked own live live' n iu same a =
    let rests : Rests s s' = record { holds = a.holds; asked = a.asked; faults = a.faults; turns = a.turns; can_fail = a.can_fail } in
    record {
      union = rests_union s s' b behind asked own live live' n iu rests (λ k l. sym (ap (λ (f : ℕ → Bool). f k) same) ∙ l);
      state = record {
        holds = ap (λ h. option_map (beside behind) h) a.holds;
        asked = ap (λ xs. union_asked b behind asked own xs) a.asked;
        live = same;
        faults = omega arith;
        turns = a.turns;
        can_fail = a.can_fail;
      };
    }
