-- Each step keeps what is exchanged.
use Rattle.std.proofs.Common.{◌≡◌, ◌≢◌, ℕ, zero, suc, Bool, true, false, true≢false, List, [], ◌∷◌, ◌++◌, length, set, inl, inr, sym, refl, ap, ◌∙◌, subst, ⊎_elim}
use Rattle.std.specs.Prelude.{Option, None, Some}
use Rattle.std.proofs.lemmas.Option.{none-some, same_Some}
use mathlib.Core.Option.{some, some-ne-none}
use lib.ListN.{get_elem?}
use Rattle.crossbeam_queue.specs.Fifo.{Pushes, Pops, Forks}
use Rattle.crossbeam_queue.proofs.Lists.{at_set, at_snoc}
use Rattle.scan_pool.specs.Boxes.{knows, Fits, Meets, IsThere, Exchanged, Answers}
use Rattle.scan_pool.specs.declared.mail.Knows.{Knows}
use Rattle.scan_pool.specs.declared.mail.Mail.{Mail}

module _ {T : Type 0} where
  at_end : (l : List (Knows T)) (a b : Knows T) (j : ℕ) → get_elem? l j ≢ some b → get_elem? (l ++ a ∷ []) j ≡ some b → j ≡ length l
  at_end [] a b zero n e = refl
  at_end [] a b (suc j) n e = absurd (some-ne-none b (sym e))
  at_end (x ∷ xs) a b zero n e = absurd (n e)
  at_end (x ∷ xs) a b (suc j) n e = ap suc (at_end xs a b j n e)

  abbrev Each : (ℕ → Knows T → Type 0) → List (Knows T) → Type 0
  Each F views = (port : ℕ) (v : Knows T) → get_elem? views port ≡ some v → F port v

  each_set : (F : ℕ → Knows T → Type 0) (views : List (Knows T)) (port : ℕ) (w : Knows T) → F port w
      → ((j : ℕ) (u : Knows T) → j ≢ port → get_elem? views j ≡ some u → F j u) → Each F (set views port w)
  each_set F views port w mine others j u e = ⊎_elim (λ (x : (j ≡ port) × (w ≡ u)). subst (λ (y : ℕ × Knows T). F y.0 y.1) (λ i. (sym x.0 i, x.1 i)) mine)
      (λ (x : (j ≢ port) × (get_elem? views j ≡ some u)). others j u x.0 x.1) (at_set views port j w u e)

  nil_cons : (x : Mail T) (xs : List (Mail T)) → x ∷ xs ≡ [] → ⊥
  nil_cons x xs e = true≢false (ap is_cons e)
    where
      is_cons : List (Mail T) → Bool
      is_cons [] = false
      is_cons (y ∷ ys) = true

  first_is : (x y : Mail T) (xs ys : List (Mail T)) → x ∷ xs ≡ y ∷ ys → x ≡ y
  first_is x y xs ys e = ap (λ l. first_or l) e
    where
      first_or : List (Mail T) → Mail T
      first_or [] = x
      first_or (z ∷ zs) = z

  rest_is : (x y : Mail T) (xs ys : List (Mail T)) → x ∷ xs ≡ y ∷ ys → xs ≡ ys
  rest_is x y xs ys e = ap rest_of e
    where
      rest_of : List (Mail T) → List (Mail T)
      rest_of [] = []
      rest_of (z ∷ zs) = zs

module _ {T : Type 0} (done : T → T → Type 0) where
  pub begins : Exchanged done [] (knows true true None None ∷ [])
  begins = (
    0,
    0,
    None,
    None,
    inl (refl, refl, refl),
    each_set (Fits 0 0 None None) (knows true true None None ∷ []) 0 (knows true true None None) ((λ _. (refl, refl)), λ _. (refl, refl))
        (λ j u other e. absurd (other (at_end [] _ u j (λ x. some-ne-none u (sym x)) e))),
  )

  -- what the others know is what they knew, where the sender learns what is sent
  sender_learns : (sender server port : ℕ) (sent sent' : Option T) (has : Option (Mail T)) (v w : Knows T) (views : List (Knows T)) → v.sends ≡ true
      → w.serves ≡ v.serves → w.has ≡ v.has → w.sent ≡ sent' → get_elem? views port ≡ some v
      → Each (Fits sender server sent has) views → Each (Fits sender server sent' has) (set views port w)
  sender_learns sender server port sent sent' has v w views may serves same is at fits = let mine = fits port v at in
      each_set (Fits sender server sent' has) views port w ((λ _. ((mine.0 may).0, is)), λ p. (let theirs = mine.1 (sym serves ∙ p) in (theirs.0, same ∙ theirs.1)))
      (λ j u other e. ((λ p. absurd (other (((fits j u e).0 p).0 ∙ sym (mine.0 may).0))), (fits j u e).1))

  -- and where the server learns what it has
  server_learns : (sender server port : ℕ) (sent : Option T) (has has' : Option (Mail T)) (v w : Knows T) (views : List (Knows T)) → v.serves ≡ true
      → w.sends ≡ v.sends → w.sent ≡ v.sent → w.has ≡ has' → get_elem? views port ≡ some v
      → Each (Fits sender server sent has) views → Each (Fits sender server sent has') (set views port w)
  server_learns sender server port sent has has' v w views may sends same is at fits = let mine = fits port v at in
      each_set (Fits sender server sent has') views port w ((λ p. (let theirs = mine.0 (sym sends ∙ p) in (theirs.0, same ∙ theirs.1))), λ _. ((mine.1 may).0, is))
      (λ j u other e. ((fits j u e).0, λ p. absurd (other (((fits j u e).1 p).0 ∙ sym (mine.1 may).0))))

  pub sends : (n port : ℕ) (v : Knows T) (x : Mail T) → v.sends ≡ true → v.sent ≡ None → x.is_done ≡ false
      → Pushes (Exchanged done) n port v x (λ w. w ≡ knows v.sends v.serves (Some x.work) v.has)
  sends n port v x may idle new items views _ h at = (w, (h.0, h.1, Some x.work, h.3, there h.4, sender_learns h.0 h.1 port h.2 (Some x.work) h.3 v w views may refl refl refl at h.5), refl)
    where
      w : Knows T
      w = knows v.sends v.serves (Some x.work) v.has

      none : h.2 ≡ None
      none = sym ((h.5 port v at).0 may).1 ∙ idle

      there : IsThere done items h.2 h.3 → IsThere done (items ++ x ∷ []) (Some x.work) h.3
      there (inl a) = inr (x.work, x, refl, ((λ _. refl), λ e. absurd (true≢false (sym e ∙ new))), inl (ap (λ l. l ++ x ∷ []) a.0, a.2))
      there (inr b) = absurd (none-some b.0 (sym none ∙ b.2))

  pub takes : (port : ℕ) (v : Knows T) → v.serves ≡ true → Pops (Exchanged done) port v (λ x w. w ≡ knows v.sends v.serves v.sent (Some x))
  takes port v may x items views h at = (w, (h.0, h.1, h.2, Some x, there h.4, server_learns h.0 h.1 port h.2 h.3 (Some x) v w views may refl refl refl at h.5), refl)
    where
      w : Knows T
      w = knows v.sends v.serves v.sent (Some x)

      there : IsThere done (x ∷ items) h.2 h.3 → IsThere done items h.2 (Some x)
      there (inl a) = absurd (nil_cons x items a.0)
      there (inr (b, m, sent, meets, inl c)) = inr (b, x, sent, subst (Meets done b) (sym (first_is x m items [] c.0)) meets, inr (rest_is x m items [] c.0, refl))
      there (inr (b, m, sent, meets, inr c)) = absurd (nil_cons x items c.0)

  pub puts : (n port : ℕ) (v : Knows T) (x old : Mail T) → v.serves ≡ true → v.has ≡ Some old → ((b : T) → Meets done b old → Meets done b x)
      → Pushes (Exchanged done) n port v x (λ w. w ≡ knows v.sends v.serves v.sent None)
  puts n port v x old may has keep items views _ h at = (w, (h.0, h.1, h.2, None, there h.4, server_learns h.0 h.1 port h.2 h.3 None v w views may refl refl refl at h.5), refl)
    where
      w : Knows T
      w = knows v.sends v.serves v.sent None

      is : h.3 ≡ Some old
      is = sym ((h.5 port v at).1 may).1 ∙ has

      there : IsThere done items h.2 h.3 → IsThere done (items ++ x ∷ []) h.2 None
      there (inl a) = absurd (none-some old (sym a.2 ∙ is))
      there (inr (b, m, sent, meets, inl c)) = absurd (none-some old (sym c.1 ∙ is))
      there (inr (b, m, sent, meets, inr c)) = inr (b, x, sent, keep b (subst (Meets done b) (same_Some m old (sym c.1 ∙ is)) meets), inl (ap (λ l. l ++ x ∷ []) c.0, refl))

  pub backs : (port : ℕ) (v : Knows T) → v.sends ≡ true
      → Pops (Exchanged done) port v (λ x w. (w ≡ knows v.sends v.serves None v.has) × Answers done v.sent x)
  backs port v may x items views h at = by h.4
    where
      w : Knows T
      w = knows v.sends v.serves None v.has

      is : v.sent ≡ h.2
      is = ((h.5 port v at).0 may).1

      by : IsThere done (x ∷ items) h.2 h.3 → (u : Knows T) × Exchanged done items (set views port u) × ((u ≡ w) × Answers done v.sent x)
      by (inl a) = absurd (nil_cons x items a.0)
      by (inr (b, m, sent, meets, inl c)) = (
        w,
        (h.0, h.1, None, h.3, inl (rest_is x m items [] c.0, refl, c.1), sender_learns h.0 h.1 port h.2 None h.3 v w views may refl refl refl at h.5),
        (refl, (b, is ∙ sent, subst (Meets done b) (sym (first_is x m items [] c.0)) meets)),
      )
      by (inr (b, m, sent, meets, inr c)) = absurd (nil_cons x items c.0)

  pub forks : (port : ℕ) (v : Knows T) → v.sends ≡ true → v.serves ≡ true → Forks (Exchanged done) port v (knows true false v.sent None) (knows false true None v.has)
  forks port v a b items views h at = let l : Knows T = knows true false v.sent None in let r : Knows T = knows false true None v.has in let mine = h.5 port v at in let vs : List (Knows T) = set views port l in
      let Old : ℕ → Knows T → Type 0 = λ j u. (u.sends ≡ true → (j ≡ h.0) × (u.sent ≡ h.2)) × (u.serves ≢ true) in
      let old : Each Old vs = each_set Old views port l ((λ _. mine.0 a), λ p. true≢false (sym p)) (λ j u other e. ((h.5 j u e).0, λ p. other (((h.5 j u e).1 p).0 ∙ sym (mine.1 b).0))) in (
        h.0,
        length vs,
        h.2,
        h.3,
        h.4,
        λ j u e. ⊎_elim (λ x. ((old j u x).0, λ p. absurd ((old j u x).1 p)))
            (λ (is : r ≡ u). ((λ p. absurd (true≢false (sym (ap (λ (y : Knows T). y.sends) is ∙ p)))), λ p. (at_end vs r u j (λ x. (old j u x).1 p) e, ap (λ (y : Knows T). y.has) (sym is) ∙ (mine.1 b).1))) (at_snoc vs r u j e),
      )
