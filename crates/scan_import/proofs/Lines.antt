-- Lines of a text, one after the other, and the rows that they are.
use Rattle.std.proofs.Common.{◌≡◌, ℕ, ◌<◌, List, [], ◌∷◌, ◌++◌, map, filter, length, true, false, refl, sym, ap, ◌∙◌, append-nil, subst}
use Rattle.std.proofs.lemmas.List.{map-append}
use Rattle.std.proofs.lemmas.List.Elements.{filter-append}
use Rattle.std.specs.Prelude.{Option, not, cond}
use Rattle.std.specs.Str.Lines.{IsFirstLine}
use Rattle.scan_import.specs.JsonLines.{LinesTo, is_blank}

-- one line more
pub lines_more : (text : List ℕ) (lines : List (List ℕ)) (left line rest : List ℕ) → LinesTo text lines left → 0 < length left → IsFirstLine left line rest → LinesTo text (lines ++ line ∷ []) rest
lines_more text [] left line rest e h f = (rest, subst (λ t. 0 < length t) (sym e) h, subst (λ t. IsFirstLine t line rest) (sym e) f, refl)
lines_more text (l ∷ ls) left line rest p h f = (p.0, p.1, p.2, lines_more p.0 ls left line rest p.3 h f)

-- a blank one is passed over
pub each_blank : {A : Type 0} (f : List ℕ → Option A) (lines : List (List ℕ)) (line : List ℕ) (os : List (Option A)) → is_blank line ≡ true → map f (filter (λ l. not (is_blank l)) lines) ≡ os
    → map f (filter (λ l. not (is_blank l)) (lines ++ line ∷ [])) ≡ os
each_blank f lines line os h e =
    ap (map f) (filter-append (λ l. not (is_blank l)) lines (line ∷ []))
    ∙ (map-append f (filter (λ l. not (is_blank l)) lines) (filter (λ l. not (is_blank l)) (line ∷ []))
    ∙ (ap (λ b. map f (filter (λ l. not (is_blank l)) lines) ++ map f (cond (not b) (line ∷ []) [])) h
    ∙ (append-nil (map f (filter (λ l. not (is_blank l)) lines)) ∙ e)))

-- another one is a row
pub each_row : {A V : Type 0} (f : List ℕ → Option A) (k : V → Option A) (lines : List (List ℕ)) (line : List ℕ) (rows now : List V) (row : V) → is_blank line ≡ false → f line ≡ k row → now ≡ rows ++ row ∷ []
    → map f (filter (λ l. not (is_blank l)) lines) ≡ map k rows → map f (filter (λ l. not (is_blank l)) (lines ++ line ∷ [])) ≡ map k now
each_row f k lines line rows now row h r n e =
    ap (map f) (filter-append (λ l. not (is_blank l)) lines (line ∷ []))
    ∙ (map-append f (filter (λ l. not (is_blank l)) lines) (filter (λ l. not (is_blank l)) (line ∷ []))
    ∙ (ap (λ b. map f (filter (λ l. not (is_blank l)) lines) ++ map f (cond (not b) (line ∷ []) [])) h
    ∙ (ap (λ o. map f (filter (λ l. not (is_blank l)) lines) ++ o ∷ []) r
    ∙ (ap (λ os. os ++ k row ∷ []) e ∙ (sym (map-append k rows (row ∷ [])) ∙ ap (map k) (sym n))))))
