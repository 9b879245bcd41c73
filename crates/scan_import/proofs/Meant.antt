-- Things that are known one after the other, each by what it means.
use Rattle.std.proofs.Common.{◌≡◌, ℕ, suc, ◌+◌, ◌<◌, List, [], ◌∷◌, ◌++◌, map, length, drop, get_or, None, Some, refl, sym, ap, ◌∙◌, append_assoc, append-nil, add-one, drop-cons, arith}
use Rattle.std.specs.Prelude.{Option}
use Rattle.std.proofs.lemmas.List.{map-append, length-map}
use Rattle.scan_import.specs.Lists.{StopsAt, all_of, more_of}

module _ {V A : Type 0} (f : V → A) where
  abbrev pub sure : V → Option A
  sure v = Some (f v)

  pub sure_somes : (vs : List V) → map sure vs ≡ map Some (map f vs)
  sure_somes [] = refl
  sure_somes (v ∷ vs) = ap (λ os. Some (f v) ∷ os) (sure_somes vs)

  -- one more is known
  pub meant_step : (made now : List V) (v : V) (o : Option A) (rest rest' whole : List (Option A)) → now ≡ made ++ v ∷ [] → Some (f v) ≡ o → rest ≡ o ∷ rest'
      → map sure made ++ rest ≡ whole → map sure now ++ rest' ≡ whole
  meant_step made now v o rest rest' whole e h d k =
      ap (λ vs. map sure vs ++ rest') e
      ∙ (ap (λ os. os ++ rest') (map-append sure made (v ∷ []))
      ∙ (append_assoc (map sure made) (Some (f v) ∷ []) rest'
      ∙ (ap (λ p. map sure made ++ (p ∷ rest')) h ∙ (ap (λ os. map sure made ++ os) (sym d) ∙ k))))

  -- the next means nothing
  pub meant_stop : (made : List V) (i : ℕ) (rest rest' whole : List (Option A)) → rest ≡ None ∷ rest' → map sure made ++ rest ≡ whole → length made ≡ i → StopsAt i whole
  meant_stop made i rest rest' whole e k n = record {
    front = map f made;
    rest = rest';
    is = sym k ∙ (ap (λ os. map sure made ++ os) e ∙ ap (λ os. os ++ None ∷ rest') (sure_somes made));
    count = length-map made f ∙ n;
  }

  -- nothing is left
  pub meant_all : (made : List V) (rest whole : List (Option A)) → rest ≡ [] → map sure made ++ rest ≡ whole → whole ≡ map sure made
  meant_all made rest whole e k = sym k ∙ (ap (λ os. map sure made ++ os) e ∙ append-nil (map sure made))

  pub all_sure : (vs : List V) → all_of (map sure vs) ≡ Some (map f vs)
  all_sure [] = refl
  all_sure (v ∷ vs) = ap (more_of (Some (f v))) (all_sure vs)

-- one more place
pub count_step : {V : Type 0} (made now : List V) (v : V) (i : ℕ) → now ≡ made ++ v ∷ [] → length made ≡ i → length now ≡ i + 1
count_step made now v i e h = ap length e ∙ (one made ∙ ap (λ n. n + 1) h)
  where
    one : (vs : List _) → length (vs ++ v ∷ []) ≡ length vs + 1
    one [] = refl
    one (w ∷ vs) = ap suc (one vs) ∙ sym (omega arith)

all_stops : {A : Type 0} (front : List A) (rest : List (Option A)) → all_of (map Some front ++ None ∷ rest) ≡ None
all_stops [] rest = refl
all_stops (x ∷ xs) rest = ap (more_of (Some x)) (all_stops xs rest)

pub stops_none : {A : Type 0} (i : ℕ) (os : List (Option A)) → StopsAt i os → all_of os ≡ None
stops_none i os s = ap all_of s.is ∙ all_stops s.front s.rest

-- the item at a place, and those behind it
pub item_at : {A : Type 0} (xs : List A) (i : ℕ) (x : A) → i < length xs → x ≡ get_or xs i x → drop i xs ≡ x ∷ drop (i + 1) xs
item_at xs i x h e = drop-cons xs i x h ∙ (ap (λ z. z ∷ drop (suc i) xs) (sym e) ∙ ap (λ k. x ∷ drop k xs) (sym (add-one i)))

-- a list is made, item by item, of another
pub made_step : {A : Type 0} (made now : List A) (x : A) (rest rest' whole : List A) → now ≡ made ++ x ∷ [] → rest ≡ x ∷ rest' → made ++ rest ≡ whole → now ++ rest' ≡ whole
made_step made now x rest rest' whole e d k = ap (λ z. z ++ rest') e ∙ (append_assoc made (x ∷ []) rest' ∙ (ap (λ r. made ++ r) (sym d) ∙ k))

pub made_end : {A : Type 0} (made rest whole : List A) → rest ≡ [] → made ++ rest ≡ whole → made ≡ whole
made_end made rest whole e k = sym (append-nil made) ∙ (ap (λ r. made ++ r) (sym e) ∙ k)

-- the number at a place, and those behind it
pub number_at : (xs : List ℕ) (i : ℕ) → i < length xs → drop i xs ≡ get_or xs i 0 ∷ drop (i + 1) xs
number_at xs i h = drop-cons xs i 0 h ∙ ap (λ k. get_or xs i 0 ∷ drop k xs) (sym (add-one i))
