-- The lines of values at places, one by one.
use Rattle.std.proofs.Common.{◌≡◌, ℕ, suc, ◌+◌, ◌<◌, ◌≤◌, List, [], ◌∷◌, ◌++◌, length, get_or, map, drop, refl, sym, ap, ◌∙◌, append_assoc, append-nil}
use Rattle.std.proofs.lemmas.List.{drop_all, drop_more}
use Rattle.scan_values.specs.DataType.{DataType}
use Rattle.scan_values.specs.Values.{val_of}
use Rattle.scan_values.specs.declared.value.Value.{Value}
use Rattle.scan_run.specs.Line.{line_of}
use Rattle.scan_places.specs.declared.place.Place.{Place}
use Rattle.scan_lookup_run.specs.Replied.{reply_lines}

pub map_long : {A B : Type 0} (f : A → B) (xs : List A) → length (map f xs) ≡ length xs
map_long f [] = refl
map_long f (x ∷ xs) = ap suc (map_long f xs)

module _ (d : DataType) (ps : List Place) (vs : List Value) (first : List ℕ) where
  -- behind what stood there stand the lines of the first so many
  abbrev pub HasLines : ℕ → List ℕ → Type 0
  HasLines i now = now ++ reply_lines d (drop i ps) (map val_of (drop i vs)) ≡ first ++ reply_lines d ps (map val_of vs)

  one_line : (i : ℕ) (p : Place) (v : Value) → i < length ps → i < length vs → p ≡ get_or ps i p → v ≡ get_or vs i v
      → reply_lines d (drop i ps) (map val_of (drop i vs)) ≡ line_of d p.file p.row (val_of v) ++ reply_lines d (drop (i + 1) ps) (map val_of (drop (i + 1) vs))
  one_line i p v lt lt' e h =
      ap (λ qs. reply_lines d qs (map val_of (drop i vs))) (drop_more ps i p lt ∙ ap (λ q. q ∷ drop (i + 1) ps) (sym e))
      ∙ ap (λ ws. reply_lines d (p ∷ drop (i + 1) ps) (map val_of ws)) (drop_more vs i v lt' ∙ ap (λ w. w ∷ drop (i + 1) vs) (sym h))

  pub line_more : (i : ℕ) (p : Place) (v : Value) (now next : List ℕ) → i < length ps → i < length vs → p ≡ get_or ps i p → v ≡ get_or vs i v
      → next ≡ now ++ line_of d p.file p.row (val_of v) → HasLines i now → HasLines (i + 1) next
  line_more i p v now next lt lt' e h n inv =
      ap (λ xs. xs ++ reply_lines d (drop (i + 1) ps) (map val_of (drop (i + 1) vs))) n
      ∙ append_assoc now (line_of d p.file p.row (val_of v)) (reply_lines d (drop (i + 1) ps) (map val_of (drop (i + 1) vs)))
      ∙ ap (λ xs. now ++ xs) (sym (one_line i p v lt lt' e h)) ∙ inv

  pub all_lines : (i : ℕ) (now : List ℕ) → length ps ≤ i → HasLines i now → now ≡ first ++ reply_lines d ps (map val_of vs)
  all_lines i now le inv =
      sym (append-nil now) ∙ ap (λ qs. now ++ reply_lines d qs (map val_of (drop i vs))) (sym (drop_all i ps le)) ∙ inv
