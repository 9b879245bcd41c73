-- Parts of a text, byte by byte.
use Rattle.std.proofs.Common.{◌≡◌, ℕ, ◌+◌, ◌<◌, ◌≤◌, List, [], ◌∷◌, ◌++◌, Bool, true, false, drop, length, None, Some, refl, sym, ap, ◌∙◌, append_assoc, append-nil, subst, arith}
use Rattle.std.specs.Prelude.{Option, slice_get, cond, ◌==◌, ◌&&◌}
use Rattle.std.specs.List.{list_all}
use Rattle.std.proofs.lemmas.List.{drop_all}
use Rattle.std.proofs.lemmas.Bool.Decides.{Decides-eqb}
use Rattle.scan_conditions.specs.Spelling.{Begins, IsQuoted, Part, Passes, Spells, begins, double_quote, doubled, goes_on, is_filled, is_pair, is_single, is_space, is_word, name, quote, sign, text, word}
use Rattle.scan_conditions.proofs.Places.{all_joined, all_more, none_at, some_at}

pub begins_some : (t : ℕ → Bool) (xs : List ℕ) (i c : ℕ) → slice_get xs i ≡ Some c → begins t (drop i xs) ≡ t c
begins_some t xs i c h = ap (begins t) (some_at xs i c h)

pub begins_none : (t : ℕ → Bool) (xs : List ℕ) (i : ℕ) → slice_get xs i ≡ None → begins t (drop i xs) ≡ false
begins_none t xs i h = ap (begins t) (none_at xs i h)

-- ---- spaces
pub passes_nothing : (t : ℕ → Bool) (xs : List ℕ) → Passes t xs xs
passes_nothing t xs = record { front = []; is = refl; all = refl }

pub passes_more : (t : ℕ → Bool) (bytes xs : List ℕ) (i c : ℕ) → slice_get xs i ≡ Some c → t c ≡ true → Passes t bytes (drop i xs) → Passes t bytes (drop (i + 1) xs)
passes_more t bytes xs i c h e p = record {
  front = p.front ++ c ∷ [];
  is = p.is ∙ (ap (λ r. p.front ++ r) (some_at xs i c h) ∙ sym (append_assoc p.front (c ∷ []) (drop (i + 1) xs)));
  all = all_more t p.front c p.all e;
}

pub passes_joined : (t : ℕ → Bool) (a b c : List ℕ) → Passes t a b → Passes t b c → Passes t a c
passes_joined t a b c p q = record {
  front = p.front ++ q.front;
  is = p.is ∙ (ap (λ r. p.front ++ r) q.is ∙ sym (append_assoc p.front q.front c));
  all = all_joined t p.front q.front p.all q.all;
}

-- ---- quotes
pub one_doubled : (q c : ℕ) → (c == q) ≡ false → doubled q (c ∷ []) ≡ c ∷ []
one_doubled q c h = ap (λ b. cond b (q ∷ q ∷ []) (c ∷ [])) h

pub quote_doubled : (q c : ℕ) → (c == q) ≡ true → doubled q (c ∷ []) ≡ q ∷ q ∷ []
quote_doubled q c h = ap (λ b. cond b (q ∷ q ∷ []) (c ∷ [])) h

same : (q c : ℕ) → c ≡ q → (c == q) ≡ true
same q c e = (Decides-eqb c q).1 e

unlike : (q c : ℕ) → (c ≡ q → ⊥) → (c == q) ≡ false
unlike q c n = by_test (c == q) refl
  where
    by_test : (b : Bool) → (c == q) ≡ b → (c == q) ≡ false
    by_test true h = absurd (n ((Decides-eqb c q).0 h))
    by_test false h = h

two : (n : ℕ) → n + 1 + 1 ≡ n + 2
two n = omega arith

-- a byte between quotes, and a quote that stands twice
pub once : (q c : ℕ) (bytes : List ℕ) (i : ℕ) → slice_get bytes i ≡ Some c → (c ≡ q → ⊥) → drop i bytes ≡ doubled q (c ∷ []) ++ drop (i + 1) bytes
once q c bytes i h n = some_at bytes i c h ∙ ap (λ r. r ++ drop (i + 1) bytes) (sym (one_doubled q c (unlike q c n)))

pub twice : (q c d : ℕ) (bytes : List ℕ) (i : ℕ) → slice_get bytes i ≡ Some c → slice_get bytes (i + 1) ≡ Some d → c ≡ q → d ≡ q → drop i bytes ≡ doubled q (c ∷ []) ++ drop (i + 2) bytes
twice q c d bytes i h k e f =
    some_at bytes i c h
    ∙ (ap (λ r. c ∷ r) (some_at bytes (i + 1) d k ∙ ap (λ n. d ∷ drop n bytes) (two i))
    ∙ (ap (λ z. z ∷ d ∷ drop (i + 2) bytes) e ∙ (ap (λ z. q ∷ z ∷ drop (i + 2) bytes) f ∙ ap (λ r. r ++ drop (i + 2) bytes) (sym (quote_doubled q c (same q c e))))))

doubled_step : (q x : ℕ) (xs : List ℕ) (c : ℕ) (b : Bool) → (x == q) ≡ b → doubled q (xs ++ c ∷ []) ≡ doubled q xs ++ doubled q (c ∷ []) → doubled q ((x ∷ xs) ++ c ∷ []) ≡ doubled q (x ∷ xs) ++ doubled q (c ∷ [])
doubled_step q x xs c true h e =
    ap (λ b. cond b (q ∷ q ∷ doubled q (xs ++ c ∷ [])) (x ∷ doubled q (xs ++ c ∷ []))) h
    ∙ (ap (λ r. q ∷ q ∷ r) e ∙ sym (ap (λ b. cond b (q ∷ q ∷ doubled q xs) (x ∷ doubled q xs) ++ doubled q (c ∷ [])) h))
doubled_step q x xs c false h e =
    ap (λ b. cond b (q ∷ q ∷ doubled q (xs ++ c ∷ [])) (x ∷ doubled q (xs ++ c ∷ []))) h
    ∙ (ap (λ r. x ∷ r) e ∙ sym (ap (λ b. cond b (q ∷ q ∷ doubled q xs) (x ∷ doubled q xs) ++ doubled q (c ∷ [])) h))

doubled_more : (q : ℕ) (xs : List ℕ) (c : ℕ) → doubled q (xs ++ c ∷ []) ≡ doubled q xs ++ doubled q (c ∷ [])
doubled_more q [] c = refl
doubled_more q (x ∷ xs) c = doubled_step q x xs c (x == q) refl (doubled_more q xs c)

pub quoted_begins : (q : ℕ) (bytes : List ℕ) (i : ℕ) (made : List ℕ) → made ≡ [] → slice_get bytes i ≡ Some q → drop i bytes ≡ q ∷ (doubled q made ++ drop (i + 1) bytes)
quoted_begins q bytes i made e h = some_at bytes i q h ∙ ap (λ m. q ∷ (doubled q m ++ drop (i + 1) bytes)) (sym e)

pub quoted_more : (q c : ℕ) (front made now rest rest' : List ℕ) → front ≡ q ∷ (doubled q made ++ rest) → rest ≡ doubled q (c ∷ []) ++ rest' → now ≡ made ++ c ∷ [] → front ≡ q ∷ (doubled q now ++ rest')
quoted_more q c front made now rest rest' h k e =
    h ∙ ap (λ r. q ∷ r) (ap (λ r. doubled q made ++ r) k
    ∙ (sym (append_assoc (doubled q made) (doubled q (c ∷ [])) rest') ∙ ap (λ r. r ++ rest') (sym (doubled_more q made c) ∙ ap (doubled q) (sym e))))

pub quoted_ends : (q : ℕ) (content made bytes : List ℕ) (front : List ℕ) (i : ℕ) → front ≡ q ∷ (doubled q made ++ drop i bytes) → content ≡ made
    → begins (λ c. c == q) (drop i bytes) ≡ true → begins (λ c. c == q) (drop (i + 1) bytes) ≡ false → IsQuoted q content front (drop (i + 1) bytes)
quoted_ends q content made bytes front i h e b n = record {
  is = h ∙ ap (λ r. q ∷ r) (ap (λ r. doubled q made ++ r) (opened bytes i b)
      ∙ (sym (append_assoc (doubled q made) (q ∷ []) (drop (i + 1) bytes)) ∙ ap (λ m. (doubled q m ++ q ∷ []) ++ drop (i + 1) bytes) (sym e)));
  ends = n;
}
  where
    opened : (xs : List ℕ) (k : ℕ) → begins (λ c. c == q) (drop k xs) ≡ true → drop k xs ≡ q ∷ drop (k + 1) xs
    opened xs k b = by_rest (slice_get xs k) refl
      where
        by_rest : (o : Option ℕ) → slice_get xs k ≡ o → drop k xs ≡ q ∷ drop (k + 1) xs
        by_rest None h = let never : false ≡ true = sym (begins_none (λ c. c == q) xs k h) ∙ b in absurd cc
        by_rest (Some c) h = some_at xs k c h ∙ ap (λ z. z ∷ drop (k + 1) xs) ((Decides-eqb c q).0 (sym (begins_some (λ c. c == q) xs k c h) ∙ b))

pub text_begins : (c : ℕ) (t front rest : List ℕ) → c ≡ quote → IsQuoted c t front rest → Begins (text t) front rest
text_begins c t front rest e h = let q = subst (λ z. IsQuoted z t front rest) e h in record { is = q.is; part = refl; ends = q.ends }

pub name_begins : (c : ℕ) (t front rest : List ℕ) → c ≡ double_quote → IsQuoted c t front rest → Begins (name t) front rest
name_begins c t front rest e h = let q = subst (λ z. IsQuoted z t front rest) e h in record { is = q.is; part = refl; ends = q.ends }

-- ---- words
pub word_more : (front made now bytes : List ℕ) (i c : ℕ) → front ≡ made ++ drop i bytes → slice_get bytes i ≡ Some c → now ≡ made ++ c ∷ [] → front ≡ now ++ drop (i + 1) bytes
word_more front made now bytes i c h k e =
    h ∙ (ap (λ r. made ++ r) (some_at bytes i c k) ∙ (sym (append_assoc made (c ∷ []) (drop (i + 1) bytes)) ∙ ap (λ r. r ++ drop (i + 1) bytes) (sym e)))

pub word_all : (made now : List ℕ) (c : ℕ) → list_all is_word made ≡ true → is_word c ≡ true → now ≡ made ++ c ∷ [] → list_all is_word now ≡ true
word_all made now c h k e = ap (list_all is_word) e ∙ all_more is_word made c h k

pub word_begins : (w made front rest : List ℕ) → w ≡ made → 0 < length made → front ≡ made ++ rest → list_all is_word made ≡ true → begins is_word rest ≡ false → Begins (word w) front rest
word_begins w made front rest e f h a n = subst (λ z. Begins (word z) front rest) (sym e) (record { is = h; part = filled made f a; ends = n })
  where
    filled : (m : List ℕ) → 0 < length m → list_all is_word m ≡ true → (is_filled m && list_all is_word m) ≡ true
    filled [] f a = absurd (omega (arith, f))
    filled (c ∷ cs) f a = a

-- ---- signs
pub single_begins : (p : Part) (c : ℕ) (bytes : List ℕ) (i end : ℕ) → p ≡ sign (c ∷ []) → is_single c ≡ true → end ≡ i + 1 → slice_get bytes i ≡ Some c → begins (is_pair c) (drop (i + 1) bytes) ≡ false
    → Begins p (drop i bytes) (drop end bytes)
single_begins p c bytes i end e s n h k =
    subst (λ z. Begins z (drop i bytes) (drop end bytes)) (sym e) (subst (λ m. Begins (sign (c ∷ [])) (drop i bytes) (drop m bytes)) (sym n) (record {
      is = some_at bytes i c h;
      part = s;
      ends = k;
    }))

pub pair_begins : (s : List ℕ) (c d : ℕ) (bytes : List ℕ) (i : ℕ) → s ≡ c ∷ d ∷ [] → is_pair c d ≡ true → slice_get bytes i ≡ Some c → slice_get bytes (i + 1) ≡ Some d → Begins (sign s) (drop i bytes) (drop (i + 2) bytes)
pair_begins s c d bytes i e p h k = subst (λ z. Begins (sign z) (drop i bytes) (drop (i + 2) bytes)) (sym e) (record {
  is = some_at bytes i c h ∙ ap (λ r. c ∷ r) (some_at bytes (i + 1) d k ∙ ap (λ n. d ∷ drop n bytes) (two i));
  part = p;
  ends = nothing (drop (i + 2) bytes);
})
  where
    nothing : (rest : List ℕ) → begins (goes_on (sign (c ∷ d ∷ []))) rest ≡ false
    nothing [] = refl
    nothing (x ∷ xs) = refl

-- ---- all parts
spells_spaced : (a b : List ℕ) (ps : List Part) → Passes is_space a b → Spells b ps → Spells a ps
spells_spaced a b [] p h = ap (list_all is_space) p.is ∙ all_joined is_space p.front b p.all h
spells_spaced a b (q ∷ qs) p h = (h.0, h.1, passes_joined is_space a b h.0 p h.2, h.3, h.4)

pub spells_begun : (bytes : List ℕ) (i : ℕ) (made : List Part) → made ≡ [] → Passes is_space bytes (drop i bytes) → (qs : List Part) → Spells (drop i bytes) qs → Spells bytes (made ++ qs)
spells_begun bytes i made e p qs h = subst (λ m. Spells bytes (m ++ qs)) (sym e) (spells_spaced bytes (drop i bytes) qs p h)

pub spells_more : (bytes : List ℕ) (made now : List Part) (p : Part) (i end next : ℕ) → ((qs : List Part) → Spells (drop i bytes) qs → Spells bytes (made ++ qs))
    → Begins p (drop i bytes) (drop end bytes) → Passes is_space (drop end bytes) (drop next bytes) → now ≡ made ++ p ∷ [] → (qs : List Part) → Spells (drop next bytes) qs → Spells bytes (now ++ qs)
spells_more bytes made now p i end next h b s e qs k =
    let here : Spells (drop i bytes) (p ∷ qs) = (drop i bytes, drop end bytes, passes_nothing is_space (drop i bytes), b, spells_spaced (drop end bytes) (drop next bytes) qs s k) in
    subst (Spells bytes) (sym (append_assoc made (p ∷ []) qs) ∙ ap (λ z. z ++ qs) (sym e)) (h (p ∷ qs) here)

pub spells_all : (bytes whole : List ℕ) (made : List Part) (i : ℕ) → bytes ≡ whole → ((qs : List Part) → Spells (drop i bytes) qs → Spells bytes (made ++ qs)) → length bytes ≤ i → Spells whole made
spells_all bytes whole made i e h past = subst (λ b. Spells b made) e (subst (Spells bytes) (append-nil made) (h [] (ap (list_all is_space) (drop_all i bytes past))))
