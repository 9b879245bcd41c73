-- A holder has been in its entry since its request.
use Rattle.std.proofs.Common.{◌≡◌, ◌⊎◌, ℕ, List, [], ◌∷◌, Bool, true, false, cond, eqb, Option, Some, None, refl, sym, ap, ◌∙◌, inl, inr, arith}
use Rattle.std.proofs.lemmas.Bool.Decides.{nat_tests}
use Rattle.std.specs.Ordering.{nat_cmp}
use Rattle.std.specs.BTreeSet.{insert_key}
use Rattle.scan_segments.specs.Source.{without, has}
use Rattle.scan_sharing.specs.Sharing.{Held, Table, joined, answered, left, kept, is_held, after}
use Rattle.scan_sharing.specs.declared.holder.SharedEvent.{SharedEvent}
use Rattle.scan_sharing.specs.declared.holder.SharedEvent.TheVariants.{Requested, Arrived, Dropped}
use Rattle.scan_sharing.specs.Past.{left_by, JoinedSince}
use Rattle.scan_sharing.proofs.Agrees.{has_insert, has_without}

one_more : (m n : ℕ) (ns : List ℕ) → has n (insert_key nat_cmp ns m) ≡ true → (m ≡ n) ⊎ (has n ns ≡ true)
one_more m n ns h = go (eqb n m) refl
  where
    go : (b : Bool) → eqb n m ≡ b → (m ≡ n) ⊎ (has n ns ≡ true)
    go true q = let same : m ≡ n = grind (arith, nat_tests) in inl same
    go false q = inr (sym (ap (λ b. cond b true (has n ns)) q) ∙ sym (has_insert n ns m) ∙ h)

before_without : (m n : ℕ) (ns : List ℕ) → has n (without m ns) ≡ true → has n ns ≡ true
before_without m n ns h = go (eqb n m) refl
  where
    go : (b : Bool) → eqb n m ≡ b → has n ns ≡ true
    go true q = let z = sym (ap (λ b. cond b false (has n ns)) q) ∙ sym (has_without m n ns) ∙ h in absurd (cc)
    go false q = sym (ap (λ b. cond b false (has n ns)) q) ∙ sym (has_without m n ns) ∙ h

module _ {A : Type 0} where
  joined_by : (m n : ℕ) (e : Option (Held A)) → is_held n (Some (joined m e)) ≡ true → (m ≡ n) ⊎ (is_held n e ≡ true)
  joined_by m n None h = one_more m n [] h
  joined_by m n (Some e) h = one_more m n e.holders h

  kept_by : (n : ℕ) (ns : List ℕ) (a : Option A) → is_held n (kept ns a) ≡ true → has n ns ≡ true
  kept_by n [] a h = h
  kept_by n (m ∷ ns) a h = h

  left_by_one : (m n : ℕ) (e : Option (Held A)) → is_held n (left m e) ≡ true → is_held n e ≡ true
  left_by_one m n None h = h
  left_by_one m n (Some e) h = before_without m n e.holders (kept_by n (without m e.holders) e.answer h)

  answered_by : (k : A) (n : ℕ) (e : Option (Held A)) → is_held n (answered k e) ≡ true → is_held n e ≡ true
  answered_by k n None h = h
  answered_by k n (Some e) h = h

  abbrev pub Came : SharedEvent A → Table A → ℕ → ℕ → Type 0
  Came e t id n = (e ≡ Requested id n) ⊎ (is_held n (t id) ≡ true)

  pick : (i m id n : ℕ) (t : Table A) → i ≡ id → (m ≡ n) ⊎ (is_held n (t i) ≡ true) → Came (Requested i m) t id n
  pick i m id n t same (inl p) = inl (λ x. Requested (same x) (p x))
  pick i m id n t same (inr p) = inr (ap (λ j. is_held n (t j)) (sym same) ∙ p)

  -- a holder that is there after an event has come by it, or was there before
  held_by : (e : SharedEvent A) (t : Table A) (id n : ℕ) → is_held n (after e t id) ≡ true → Came e t id n
  held_by (Requested i m) t id n h = go (eqb id i) refl
    where
      go : (b : Bool) → eqb id i ≡ b → Came (Requested i m) t id n
      go true q = let same : i ≡ id = grind (arith, nat_tests) in
          pick i m id n t same (joined_by m n (t i) (sym (ap (λ b. is_held n (cond b (Some (joined m (t i))) (t id))) q) ∙ h))
      go false q = inr (sym (ap (λ b. is_held n (cond b (Some (joined m (t i))) (t id))) q) ∙ h)
  held_by (Arrived i k) t id n h = go (eqb id i) refl
    where
      go : (b : Bool) → eqb id i ≡ b → Came (Arrived i k) t id n
      go true q = let same : i ≡ id = grind (arith, nat_tests) in
          inr (ap (λ j. is_held n (t j)) (sym same) ∙ answered_by k n (t i) (sym (ap (λ b. is_held n (cond b (answered k (t i)) (t id))) q) ∙ h))
      go false q = inr (sym (ap (λ b. is_held n (cond b (answered k (t i)) (t id))) q) ∙ h)
  held_by (Dropped i m) t id n h = go (eqb id i) refl
    where
      go : (b : Bool) → eqb id i ≡ b → Came (Dropped i m) t id n
      go true q = let same : i ≡ id = grind (arith, nat_tests) in
          inr (ap (λ j. is_held n (t j)) (sym same) ∙ left_by_one m n (t i) (sym (ap (λ b. is_held n (cond b (left m (t i)) (t id))) q) ∙ h))
      go false q = inr (sym (ap (λ b. is_held n (cond b (left m (t i)) (t id))) q) ∙ h)

  pub joined_since : (past : List (SharedEvent A)) (id n : ℕ) → is_held n (left_by past id) ≡ true → JoinedSince past id n
  joined_since [] id n h = absurd (cc)
  joined_since (e ∷ es) id n h = go (held_by e (left_by es) id n h) (joined_since es id n)
    where
      go : Came e (left_by es) id n → (is_held n (left_by es id) ≡ true → JoinedSince es id n) → JoinedSince (e ∷ es) id n
      go (inl p) ih = (h, inl p)
      go (inr p) ih = (h, inr (ih p))
