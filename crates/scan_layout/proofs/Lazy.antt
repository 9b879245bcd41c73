-- Lazy children one by one.
use Rattle.std.proofs.Common.{◌≡◌, ℕ, zero, suc, ◌+◌, ◌<◌, ◌≤◌, List, [], ◌∷◌, ◌++◌, length, get_or, arith, add-one, refl, sym, ap, subst, true, false, Option, Some, None, replicate}
use Rattle.std.specs.Prelude.{is_some, IsErrOf, Ok, slice_set, slice_index_or}
use Rattle.scan_layout.specs.declared.children.ChildFault.{ChildFault}
use Rattle.scan_layout.specs.Lazy.{Children, Opens, child_at, with_child, Makes}

abbrev value_or : {M : Type 0} → M → Option M → M
value_or x None = x
value_or x (Some y) = y

module _ {M : Type 0} where
  pub none_more : (n : ℕ) → replicate {A = Option M} n None ++ None ∷ [] ≡ replicate {A = Option M} (n + 1) None
  none_more zero = refl
  none_more (suc n) = rw add-one (ap (λ xs. None ∷ xs) (rw add-one at (none_more n)))

  -- a child that is there
  made_here : (ms : List (Option M)) (i : ℕ) (x : M) → i < length ms → Some x ≡ get_or ms i (Some x) → (ms ≡ slice_set ms i (Some x)) × (slice_index_or ms i None ≡ Some x)
  made_here [] i x lt e = absurd (omega arith)
  made_here (m ∷ ms) zero x lt e = (ap (λ y. y ∷ ms) (sym e), sym e)
  made_here (m ∷ ms) (suc i) x lt e = let r = made_here ms i x (omega arith) e in (ap (λ ys. m ∷ ys) r.0, r.1)

  -- a child that is written is there, and may be written anew
  written_in : (ms : List (Option M)) (i : ℕ) (x : M) → i < length ms → slice_index_or (slice_set ms i (Some x)) i None ≡ Some x
  written_in [] i x lt = absurd (omega arith)
  written_in (m ∷ ms) zero x lt = refl
  written_in (m ∷ ms) (suc i) x lt = written_in ms i x (omega arith)

  set_again : (ms : List (Option M)) (i : ℕ) (x y : M) → slice_set (slice_set ms i (Some x)) i (Some y) ≡ slice_set ms i (Some y)
  set_again [] i x y = refl
  set_again (m ∷ ms) zero x y = refl
  set_again (m ∷ ms) (suc i) x y = ap (λ ys. m ∷ ys) (set_again ms i x y)

module _ {V K M : Type 0} where
  -- nothing is made where the child is there
  pub stays_made : (makes : Opens V K M) (c : Children V K M) (i : ℕ) (m : Option M) → i < length c.made → m ≡ get_or c.made i m → is_some m ≡ true → Makes makes i c c
  stays_made makes c i None lt e there = absurd cc
  stays_made makes c i (Some x) lt e there =
      let r = made_here c.made i x lt e in
      record { child = x; made = λ j. record c { made = r.0 j }; kept = λ _. r.1; own = λ h. absurd (no_child r.1 h) }
    where
      no_child : child_at c i ≡ Some x → is_some (child_at c i) ≡ false → ⊥
      no_child e h = let no : is_some (Some x) ≡ false = subst (λ o. is_some o ≡ false) e h in absurd cc

  pub child_written : (c : Children V K M) (i : ℕ) (x : M) → i < length c.made → child_at (with_child c i x) i ≡ Some x
  child_written c i x lt = written_in c.made i x lt

  pub written_again : (c : Children V K M) (i : ℕ) (x y : M) → with_child (with_child c i x) i y ≡ with_child c i y
  written_again c i x y = λ j. record c { made = set_again c.made i x y j }

module _ {M : Type 0} where
  -- a fact of what is there
  pub own_of : (P : M → Type 0) {x y : M} → Some x ≡ Some y → P x → P y
  own_of P {x} {y} e p = subst P (ap (value_or x) e) p

pub no_fault : {T : Type 0} → (x : T) (e : ChildFault) → IsErrOf (Ok x) e → ⊥
no_fault x e h = absurd cc

pub within_if : (i n : ℕ) → (n ≤ i → ⊥) → i < n
within_if i n h = omega arith
