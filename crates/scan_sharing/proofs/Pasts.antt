-- Each entry was held without a gap since the request that made it, and its answer is the one that arrived of that request.
use Rattle.std.proofs.Common.{◌≡◌, ◌⊎◌, ℕ, List, [], ◌∷◌, Bool, true, false, cond, eqb, Option, Some, None, is_some, refl, sym, ap, ◌∙◌, inl, inr, arith}
use Rattle.std.proofs.lemmas.Bool.Decides.{nat_tests}
use Rattle.scan_segments.specs.Source.{without}
use Rattle.scan_sharing.specs.Sharing.{Held, Table, joined, answered, left, kept, is_live, answer_of}
use Rattle.scan_sharing.specs.declared.holder.SharedEvent.{SharedEvent}
use Rattle.scan_sharing.specs.declared.holder.SharedEvent.TheVariants.{Requested, Arrived, Dropped}
use Rattle.scan_sharing.specs.Sharing.{after, May}
use Rattle.scan_sharing.specs.Past.{left_by, WasLawful, Makes, HeldSince, AnsweredSince}

module _ {A : Type 0} where
  none_if : (b : Bool) (x y : Option (Held A)) → x ≡ None → y ≡ None → is_some (cond b x y) ≡ true → ⊥
  none_if true x y p q s = let z = ap is_some p in cc
  none_if false x y p q s = let z = ap is_some q in cc

  -- an entry that an event makes is made by a request of its id
  made_by : (e : (SharedEvent A)) (t : Table A) (id : ℕ) → t id ≡ None → is_some (after e t id) ≡ true → Makes e t id
  made_by (Requested i n) t id none some = go (eqb id i) refl
    where
      go : (b : Bool) → eqb id i ≡ b → Makes (Requested i n) t id
      go true q = let same : i ≡ id = grind (arith, nat_tests) in ((n, ap (λ j. Requested j n) same), none)
      go false q = let s = ap (λ b. is_some (cond b (Some (joined n (t i))) (t id))) q in let z = ap is_some none in absurd (cc)
  made_by (Arrived i k) t id none some = absurd (go (eqb id i) refl)
    where
      go : (b : Bool) → eqb id i ≡ b → ⊥
      go true q = let same : i ≡ id = grind (arith, nat_tests) in none_if (eqb id i) (answered k (t i)) (t id) (ap (λ j. answered k (t j)) same ∙ ap (answered k) none) none some
      go false q = let s = ap (λ b. is_some (cond b (answered k (t i)) (t id))) q in let z = ap is_some none in cc
  made_by (Dropped i n) t id none some = absurd (go (eqb id i) refl)
    where
      go : (b : Bool) → eqb id i ≡ b → ⊥
      go true q = let same : i ≡ id = grind (arith, nat_tests) in none_if (eqb id i) (left n (t i)) (t id) (ap (λ j. left n (t j)) same ∙ ap (left n) none) none some
      go false q = let s = ap (λ b. is_some (cond b (left n (t i)) (t id))) q in let z = ap is_some none in cc

  pub held_since : (past : List (SharedEvent A)) (id : ℕ) → is_some (left_by past id) ≡ true → HeldSince past id
  held_since [] id some = absurd (cc)
  held_since (e ∷ es) id some = go (left_by es id) refl (held_since es id)
    where
      go : (o : Option (Held A)) → left_by es id ≡ o → (is_some (left_by es id) ≡ true → HeldSince es id) → HeldSince (e ∷ es) id
      go None eq ih = (some, inl (made_by e (left_by es) id eq some))
      go (Some h) eq ih = (some, inr (ih (ap is_some eq)))

  joined_answer : (n : ℕ) (e : Option (Held A)) → answer_of (Some (joined n e)) ≡ answer_of e
  joined_answer n None = refl
  joined_answer n (Some e) = refl

  kept_answer : (ns : List ℕ) (a : Option A) (k : A) → answer_of (kept ns a) ≡ Some k → a ≡ Some k
  kept_answer [] a k is = absurd (cc)
  kept_answer (n ∷ ns) a k is = is

  left_answer : (n : ℕ) (e : Option (Held A)) (k : A) → answer_of (left n e) ≡ Some k → answer_of e ≡ Some k
  left_answer n None k is = is
  left_answer n (Some e) k is = kept_answer (without n e.holders) e.answer k is

  live_answered : (j : A) (e : Option (Held A)) (k : A) → is_live e ≡ true → answer_of (answered j e) ≡ Some k → j ≡ k
  live_answered j None k l is = absurd (cc)
  live_answered j (Some e) k l is = let s : Some j ≡ Some k = is in cc

  -- an answer that is there after an event has come by it, or was there before
  came_by : (e : (SharedEvent A)) (t : Table A) (id : ℕ) (k : A) → May t e → answer_of (after e t id) ≡ Some k → ((e ≡ Arrived id k) × (is_live (t id) ≡ true)) ⊎ (answer_of (t id) ≡ Some k)
  came_by (Requested i n) t id k may is = go (eqb id i) refl
    where
      go : (b : Bool) → eqb id i ≡ b → ((Requested i n ≡ Arrived id k) × (is_live (t id) ≡ true)) ⊎ (answer_of (t id) ≡ Some k)
      go true q = let same : i ≡ id = grind (arith, nat_tests) in inr (ap (λ j. answer_of (t j)) (sym same) ∙ sym (joined_answer n (t i)) ∙ sym (ap (λ b. answer_of (cond b (Some (joined n (t i))) (t id))) q) ∙ is)
      go false q = inr (sym (ap (λ b. answer_of (cond b (Some (joined n (t i))) (t id))) q) ∙ is)
  came_by (Arrived i j) t id k may is = go (eqb id i) refl
    where
      go : (b : Bool) → eqb id i ≡ b → ((Arrived i j ≡ Arrived id k) × (is_live (t id) ≡ true)) ⊎ (answer_of (t id) ≡ Some k)
      go true q =
          let same : i ≡ id = grind (arith, nat_tests) in
          let what = live_answered j (t i) k may (sym (ap (λ b. answer_of (cond b (answered j (t i)) (t id))) q) ∙ is) in
          inl ((λ x. Arrived (same x) (what x)), ap (λ y. is_live (t y)) (sym same) ∙ may)
      go false q = inr (sym (ap (λ b. answer_of (cond b (answered j (t i)) (t id))) q) ∙ is)
  came_by (Dropped i n) t id k may is = go (eqb id i) refl
    where
      go : (b : Bool) → eqb id i ≡ b → ((Dropped i n ≡ Arrived id k) × (is_live (t id) ≡ true)) ⊎ (answer_of (t id) ≡ Some k)
      go true q = let same : i ≡ id = grind (arith, nat_tests) in inr (ap (λ j. answer_of (t j)) (sym same) ∙ left_answer n (t i) k (sym (ap (λ b. answer_of (cond b (left n (t i)) (t id))) q) ∙ is))
      go false q = inr (sym (ap (λ b. answer_of (cond b (left n (t i)) (t id))) q) ∙ is)

  pub answered_since : (past : List (SharedEvent A)) (id : ℕ) (k : A) → WasLawful past → answer_of (left_by past id) ≡ Some k → AnsweredSince past id k
  answered_since [] id k l is = absurd (cc)
  answered_since (e ∷ es) id k l is = go (came_by e (left_by es) id k l.0 is)
      (answered_since es id k l.1)
    where
      go : ((e ≡ Arrived id k) × (is_live (left_by es id) ≡ true)) ⊎ (answer_of (left_by es id) ≡ Some k) → (answer_of (left_by es id) ≡ Some k → AnsweredSince es id k) → AnsweredSince (e ∷ es) id k
      go (inl p) ih = (is, inl p)
      go (inr p) ih = (is, inr (ih p))
