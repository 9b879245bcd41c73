-- The numbers of a table's holders stay below its next number.
use Rattle.std.proofs.Common.{◌≡◌, ◌⊎◌, ℕ, ◌<◌, ◌≤◌, List, [], ◌∷◌, Bool, true, false, cond, eqb, Option, Some, None, sym, ap, ◌∙◌, inl, inr, refl, subst, arith}
use Rattle.std.proofs.lemmas.Bool.Decides.{nat_tests}
use Rattle.scan_segments.specs.Source.{SourceState, without, has}
use Rattle.scan_sharing.specs.Sharing.{Held, joined, kept, left, answered, with_holder, with_answer, without_holder, is_held, entry_at, Same}
use Rattle.scan_sharing.specs.declared.holder.SharedAnswer.{SharedAnswer}
use Rattle.scan_sharing.specs.SharedTables.{AreBelow, Polls}
use Rattle.scan_sharing.proofs.Agrees.{has_insert, has_without}

-- no number from the next one on is that of a holder
pub not_held : (next id : ℕ) (es : List (ℕ × Held SharedAnswer)) → AreBelow next es → is_held next (entry_at es id) ≡ false
not_held next id es h = go (is_held next (entry_at es id)) refl
  where
    go : (b : Bool) → is_held next (entry_at es id) ≡ b → is_held next (entry_at es id) ≡ false
    go true p = let less : next < next = h id next p in absurd (omega arith)
    go false p = p

one_of : (a b : Bool) → cond a true b ≡ true → (a ≡ true) ⊎ (b ≡ true)
one_of true b h = inl refl
one_of false b h = inr h

kept_holds : {A : Type 0} → (m : ℕ) (ns : List ℕ) (a : Option A) → is_held m (kept ns a) ≡ true → has m ns ≡ true
kept_holds m [] a h = absurd cc
kept_holds m (n ∷ ns) a h = h

others_hold : (m n : ℕ) (ns : List ℕ) → has m (without n ns) ≡ true → has m ns ≡ true
others_hold m n ns h = go (eqb m n) (sym (has_without n m ns) ∙ h)
  where
    go : (b : Bool) → cond b false (has m ns) ≡ true → has m ns ≡ true
    go true p = absurd cc
    go false p = p

module _ {A : Type 0} where
  left_holds : (m n : ℕ) (e : Option (Held A)) → is_held m (left n e) ≡ true → is_held m e ≡ true
  left_holds m n None h = absurd cc
  left_holds m n (Some e) h = others_hold m n e.holders (kept_holds m (without n e.holders) e.answer h)

  answered_holds : (m : ℕ) (a : A) (e : Option (Held A)) → is_held m (answered a e) ≡ true → is_held m e ≡ true
  answered_holds m a None h = absurd cc
  answered_holds m a (Some e) h = h

  joined_holds : (m n : ℕ) (e : Option (Held A)) → is_held m (Some (joined n e)) ≡ true → (m ≡ n) ⊎ (is_held m e ≡ true)
  joined_holds m n None h = inl (grind (arith, nat_tests))
  joined_holds m n (Some e) h = go (eqb m n) refl (sym (has_insert m e.holders n) ∙ h)
    where
      go : (b : Bool) → eqb m n ≡ b → cond b true (has m e.holders) ≡ true → (m ≡ n) ⊎ (is_held m (Some e) ≡ true)
      go true p q = inl (grind (arith, nat_tests))
      go false p q = inr q

  put_below : (b : Bool) (m next : ℕ) (x y : Option (Held A)) → (is_held m x ≡ true → m < next) → (is_held m y ≡ true → m < next) → is_held m (cond b x y) ≡ true → m < next
  put_below true m next x y h k p = h p
  put_below false m next x y h k p = k p

-- the holder n comes
pub below_joined : (next next' n id : ℕ) (es fs : List (ℕ × Held SharedAnswer)) → AreBelow next es → next ≤ next' → n < next' → Same (entry_at fs) (with_holder n id (entry_at es)) → AreBelow next' fs
below_joined next next' n id es fs h le lt same i m p =
    put_below (eqb i id) m next' (Some (joined n (entry_at es id))) (entry_at es i)
    (λ q. go (joined_holds m n (entry_at es id) q))
    (λ q. let old : m < next = h i m q in omega arith)
    (sym (ap (is_held m) (same i)) ∙ p)
  where
    go : (m ≡ n) ⊎ (is_held m (entry_at es id) ≡ true) → m < next'
    go (inl e) = omega arith
    go (inr q) = let old : m < next = h id m q in omega arith

-- an answer comes
pub below_answered : (next id : ℕ) (a : SharedAnswer) (es fs : List (ℕ × Held SharedAnswer)) → AreBelow next es → Same (entry_at fs) (with_answer id a (entry_at es)) → AreBelow next fs
below_answered next id a es fs h same i m p =
    put_below (eqb i id) m next (answered a (entry_at es id)) (entry_at es i)
    (λ q. h id m (answered_holds m a (entry_at es id) q))
    (λ q. h i m q)
    (sym (ap (is_held m) (same i)) ∙ p)

-- the holder n goes
pub below_left : (next n id : ℕ) (es fs : List (ℕ × Held SharedAnswer)) → AreBelow next es → Same (entry_at fs) (without_holder n id (entry_at es)) → AreBelow next fs
below_left next n id es fs h same i m p =
    put_below (eqb i id) m next (left n (entry_at es id)) (entry_at es i)
    (λ q. h id m (left_holds m n (entry_at es id) q))
    (λ q. h i m q)
    (sym (ap (is_held m) (same i)) ∙ p)

pub below_polled : (fits : ℕ → List ℕ → Type 0) (old new : SourceState) (next id : ℕ) (es fs : List (ℕ × Held SharedAnswer)) → AreBelow next es → Polls fits old new es fs id → AreBelow next fs
below_polled fits old new next id es fs h (inl rests) = subst (AreBelow next) (sym rests.0) h
below_polled fits old new next id es fs h (inr arrives) = below_answered next id arrives.answer es fs h arrives.step
