-- Splits that are started.
use Rattle.std.proofs.Common.{◌≡◌, ℕ, suc, zero, ◌+◌, ◌<◌, List, [], ◌∷◌, ◌++◌, length, map, Bool, true, false, ◌||◌, eqb, inl, inr, refl, sym, ap, ◌∙◌, subst, arith, append_assoc, length-append}
use Rattle.std.specs.Prelude.{◌⊎◌}
use Rattle.std.specs.List.{flat_map}
use Rattle.std.proofs.lemmas.Bool.Decides.{nat_tests}
use Rattle.scan_values.specs.Selections.{is_among}
use Rattle.scan_plans.specs.Futures.{FutureData}
use Rattle.scan_streams.specs.Runs.{new_run}
use Rattle.scan_streams.specs.Slots.{slot_at, slot_split, is_fresh, HasNews}
use Rattle.scan_streams.specs.Splits.{new_split}
use Rattle.scan_streams.specs.Readings.{Starts, AllStarted, next_slot, later, news_of}
use Rattle.scan_streams.specs.declared.slot.Slot.{Slot}
use Rattle.scan_streams.specs.declared.slot.Slot.TheVariants as slot
use Rattle.scan_streams.proofs.Desking.{among_snoc}

started_snoc : (slots : List Slot) (f : FutureData) → AllStarted slots → AllStarted (slots ++ slot.Run (new_run f) ∷ [])
started_snoc [] f h = ((f, refl), tt)
started_snoc (s ∷ slots) f h = (h.0, started_snoc slots f h.1)

splits_snoc : (slots : List Slot) (f : FutureData) (fs : List FutureData) → flat_map slot_split (slots ++ slot.Run (new_run f) ∷ []) ++ map new_split fs ≡ flat_map slot_split slots ++ map new_split (f ∷ fs)
splits_snoc [] f fs = refl
splits_snoc (s ∷ slots) f fs =
    append_assoc (slot_split s) (flat_map slot_split (slots ++ slot.Run (new_run f) ∷ [])) (map new_split fs)
    ∙ ap (λ xs. slot_split s ++ xs) (splits_snoc slots f fs)
    ∙ sym (append_assoc (slot_split s) (flat_map slot_split slots) (map new_split (f ∷ fs)))

or_false : (b : Bool) → b ≡ true → (b || false) ≡ true
or_false true h = refl
or_false false h = absurd cc

or_right : (a : Bool) → (a || true) ≡ true
or_right true = refl
or_right false = refl

-- one more slot that has news
news_snoc : (slots : List Slot) (s : Slot) (news : List ℕ) (i : ℕ) → i ≡ length slots → HasNews slots news → HasNews (slots ++ s ∷ []) (news ++ i ∷ [])
news_snoc slots s news i e h q f = among_snoc news i q ∙ go (eqb i q) refl
  where
    last : (xs : List Slot) (k : ℕ) → is_fresh (slot_at (xs ++ s ∷ []) k) ≡ true → (is_fresh (slot_at xs k) ≡ true) ⊎ (k ≡ length xs)
    last [] zero g = inr refl
    last [] (suc k) g = absurd cc
    last (x ∷ xs) zero g = inl g
    last (x ∷ xs) (suc k) g = up (last xs k g)
      where
        up : (is_fresh (slot_at xs k) ≡ true) ⊎ (k ≡ length xs) → (is_fresh (slot_at xs k) ≡ true) ⊎ (suc k ≡ suc (length xs))
        up (inl u) = inl u
        up (inr u) = inr (ap suc u)

    go : (b : Bool) → eqb i q ≡ b → (is_among news q || b) ≡ true
    go true g = or_right (is_among news q)
    go false g = or_false (is_among news q) (old (last slots q f))
      where
        old : (is_fresh (slot_at slots q) ≡ true) ⊎ (q ≡ length slots) → is_among news q ≡ true
        old (inl u) = h q u
        old (inr u) = let same : eqb i q ≡ true = grind (arith, nat_tests) in absurd cc

pub starts_none : (splits : List FutureData) (slots : List Slot) (news : List ℕ) → slots ≡ [] → Starts 0 splits slots splits news
starts_none splits slots news e = subst (λ (ss : List Slot). Starts 0 splits ss splits news) (sym e) (record { started = tt; splits_are = refl; len = refl; rest = omega arith; has = λ q f. absurd cc })

pub starts_next : (i : ℕ) (splits : List FutureData) (slots : List Slot) (queue : List FutureData) (news : List ℕ) (s : Slot) (rest : List FutureData) (more : List ℕ) → i < length splits → s ≡ next_slot queue → rest ≡ later queue → more ≡ news ++ news_of queue i
    → Starts i splits slots queue news → Starts (i + 1) splits (slots ++ s ∷ []) rest more
starts_next i splits slots [] news s rest more lt a b c h = let r = h.rest in absurd (omega arith)
starts_next i splits slots (f ∷ fs) news s rest more lt a b c h =
    rw (a, b, c) (record {
      started = started_snoc slots f h.started;
      splits_are = splits_snoc slots f fs ∙ h.splits_are;
      len = let l = h.len in let n = length-append slots (slot.Run (new_run f) ∷ []) in omega arith;
      rest = let r = h.rest in omega arith;
      has = news_snoc slots (slot.Run (new_run f)) news i (sym h.len) h.has;
    })
