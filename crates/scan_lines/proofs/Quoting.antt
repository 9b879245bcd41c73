-- The text of a quoted text, run by run.
use Rattle.std.proofs.Common.{◌≡◌, ℕ, ◌+◌, ◌-◌, ◌<◌, ◌≤◌, List, [], ◌∷◌, ◌++◌, length, take, drop, get_or, refl, sym, ap, ◌∙◌, arith, append_assoc, append-nil, take-append-drop}
use Rattle.std.specs.Prelude.{codes}
use Rattle.std.specs.List.{flat_map}
use Rattle.std.proofs.lemmas.List.{take_more, take-take, drop-take, take_all, length-drop}
use Rattle.std.proofs.lemmas.List.Concat.{flat_map-append}
use Rattle.scan_lines.specs.Line.{escaped, quoted}

-- a quote, and the first bytes of a text
abbrev pub front_text : List ℕ → ℕ → List ℕ
front_text text k = codes "\"" ++ flat_map escaped (take k text)

take_sum : (k n : ℕ) (xs : List ℕ) → take (k + n) xs ≡ take k xs ++ take n (drop k xs)
take_sum k n xs =
    sym (take-append-drop k (take (k + n) xs))
    ∙ ap (λ ys. ys ++ drop k (take (k + n) xs)) (take-take k (k + n) xs (omega arith))
    ∙ ap (λ ys. take k xs ++ ys) (drop-take k n xs)

joined : (text ys : List ℕ) (k m : ℕ) → take m text ≡ take k text ++ ys → front_text text m ≡ front_text text k ++ flat_map escaped ys
joined text ys k m h =
    ap (λ xs. codes "\"" ++ flat_map escaped xs) h
    ∙ ap (λ xs. codes "\"" ++ xs) (flat_map-append escaped (take k text) ys)
    ∙ sym (append_assoc (codes "\"") (flat_map escaped (take k text)) (flat_map escaped ys))

pub byte_more : (text : List ℕ) (k : ℕ) → k < length text → front_text text k ++ escaped (get_or text k 0) ≡ front_text text (k + 1)
byte_more text k h =
    ap (λ xs. front_text text k ++ xs) (sym (append-nil (escaped (get_or text k 0))))
    ∙ sym (joined text (get_or text k 0 ∷ []) k (k + 1) (take_more text k 0 h))

pub run_more : (text rest : List ℕ) (k n : ℕ) → rest ≡ drop k text → flat_map escaped (take n rest) ≡ take n rest → front_text text k ++ take n rest ≡ front_text text (k + n)
run_more text rest k n e h =
    ap (λ xs. front_text text k ++ xs) (sym h ∙ ap (λ xs. flat_map escaped (take n xs)) e)
    ∙ sym (joined text (take n (drop k text)) k (k + n) (take_sum k n text))

pub all_written : (text : List ℕ) (k : ℕ) → length text ≤ k → front_text text k ++ codes "\"" ≡ quoted text
all_written text k h =
    ap (λ xs. (codes "\"" ++ flat_map escaped xs) ++ codes "\"") (take_all k text h)
    ∙ append_assoc (codes "\"") (flat_map escaped text) (codes "\"")

pub rest_is : (text : List ℕ) (i : ℕ) → take (length text - i) (drop i text) ≡ drop i text
rest_is text i = take_all (length text - i) (drop i text) (let e = length-drop i text in omega arith)
