-- A text of which a front was appended.
use Rattle.std.proofs.Common.{◌≡◌, ℕ, ◌+◌, ◌-◌, ◌≤◌, ◌<◌, List, ◌++◌, length, take-append-drop, sym, ap, ◌∙◌, append_assoc, arith, subst}
use Rattle.std.proofs.lemmas.List.{length-append}
use Rattle.std.proofs.Math.Nat.{le_refl}
use Rattle.std.specs.Prelude.{Result, Ok, Err, OnOk, OnErr, codes, get_or, drop, take}
use Rattle.std.specs.List.{flat_map}
use Rattle.std.proofs.lemmas.List.{drop_more, drop-drop, take_all, length-drop}
use Rattle.std.proofs.Math.ListN.{drop_of_length-le}
use Rattle.std.proofs.lemmas.List.Concat.{flat_map-append}
use Rattle.scan_run.specs.Line.{AppendsFront, escaped}

pub front_none : (t old new : List ℕ) → new ≡ old → AppendsFront t old new
front_none t old new e = subst (λ n. AppendsFront t old n) (sym e) (record { rest = t; parts = refl'; keeps = le_refl _ }) where
  refl' : old ++ t ≡ old ++ t
  refl' = cc

pub front_first : (a b old new : List ℕ) → AppendsFront a old new → AppendsFront (a ++ b) old new
front_first a b old new h = record { rest = h.rest ++ b; parts = sym (append_assoc old a b) ∙ ap (λ xs. xs ++ b) h.parts ∙ append_assoc new h.rest b; keeps = h.keeps }

-- a front behind what was appended before
pub front_then : (a b old mid new : List ℕ) → mid ≡ old ++ a → AppendsFront b mid new → AppendsFront (a ++ b) old new
front_then a b old mid new e h =
    let n : length mid ≡ length (old ++ a) = ap length e in
    let k = length-append old a in
    let l = h.keeps in
    record { rest = h.rest; parts = sym (append_assoc old a b) ∙ ap (λ xs. xs ++ b) (sym e) ∙ h.parts; keeps = omega arith }

-- a front of the next piece, where this is left
pub front_next : (t p more old mid new : List ℕ) → old ++ t ≡ mid ++ (p ++ more) → length old ≤ length mid → AppendsFront p mid new → AppendsFront t old new
front_next t p more old mid new e k h =
    let l = h.keeps in
    record { rest = h.rest ++ more; parts = e ∙ sym (append_assoc mid p more) ∙ ap (λ xs. xs ++ more) h.parts ∙ append_assoc new h.rest more; keeps = omega arith }

pub on_err : {T E : Type 0} (r : Result T E) (A : Type 0) → A → OnErr r A
on_err (Ok x) A a = tt
on_err (Err e) A a = a

-- nothing of the next piece was appended
pub front_kept : (t rest old mid new : List ℕ) → old ++ t ≡ mid ++ rest → length old ≤ length mid → new ≡ mid → AppendsFront t old new
front_kept t rest old mid new e k h = subst (λ n. AppendsFront t old n) (sym h) (record { rest = rest; parts = e; keeps = k })

pub err_kept : {T E : Type 0} (r : Result T E) (t rest old mid new : List ℕ) → old ++ t ≡ mid ++ rest → length old ≤ length mid → OnErr r (new ≡ mid) → OnErr r (AppendsFront t old new)
err_kept (Ok x) t rest old mid new e k h = tt
err_kept (Err x) t rest old mid new e k h = front_kept t rest old mid new e k h

pub err_none : {T E : Type 0} (r : Result T E) (t old new : List ℕ) → OnErr r (new ≡ old) → OnErr r (AppendsFront t old new)
err_none (Ok x) t old new h = tt
err_none (Err x) t old new h = front_none t old new h

pub err_then : {T E : Type 0} (r : Result T E) (a b old mid new : List ℕ) → mid ≡ old ++ a → OnErr r (AppendsFront b mid new) → OnErr r (AppendsFront (a ++ b) old new)
err_then (Ok x) a b old mid new e h = tt
err_then (Err x) a b old mid new e h = front_then a b old mid new e h

pub ok_then : {T E : Type 0} (r : Result T E) (a b old mid new : List ℕ) → mid ≡ old ++ a → OnOk r (new ≡ mid ++ b) → OnOk r (new ≡ old ++ (a ++ b))
ok_then (Ok x) a b old mid new e h = h ∙ ap (λ xs. xs ++ b) e ∙ append_assoc old a b
ok_then (Err x) a b old mid new e h = tt

pub ok_closed : {T E : Type 0} (r : Result T E) (t old mid new p : List ℕ) → old ++ t ≡ mid ++ p → OnOk r (new ≡ mid ++ p) → OnOk r (new ≡ old ++ t)
ok_closed (Ok x) t old mid new p e h = h ∙ sym e
ok_closed (Err x) t old mid new p e h = tt

-- ---- the text of a quoted text, run by run
pub next_piece : (t more q old mid new a rest : List ℕ) → rest ≡ a ++ more → old ++ t ≡ mid ++ (rest ++ q) → length old ≤ length mid → new ≡ mid ++ a → (old ++ t ≡ new ++ (more ++ q)) × (length old ≤ length new)
next_piece t more q old mid new a rest r e k h =
    let n : length new ≡ length (mid ++ a) = ap length h in
    let s = length-append mid a in
    (e ∙ ap (λ xs. mid ++ (xs ++ q)) r ∙ ap (λ xs. mid ++ xs) (append_assoc a more q) ∙ sym (append_assoc mid a (more ++ q)) ∙ ap (λ xs. xs ++ (more ++ q)) (sym h), omega arith)

pub opened : (rest old new : List ℕ) → new ≡ old ++ codes "\"" → (old ++ (codes "\"" ++ rest) ≡ new ++ rest) × (length old ≤ length new)
opened rest old new h =
    let n : length new ≡ length (old ++ codes "\"") = ap length h in
    let s = length-append old (codes "\"") in
    (sym (append_assoc old (codes "\"") rest) ∙ ap (λ xs. xs ++ rest) (sym h), omega arith)

pub byte_piece : (text : List ℕ) (i : ℕ) → i < length text → flat_map escaped (drop i text) ≡ escaped (get_or text i 0) ++ flat_map escaped (drop (i + 1) text)
byte_piece text i h = ap (flat_map escaped) (drop_more text i 0 h)

pub rest_is : (text : List ℕ) (i : ℕ) → take (length text - i) (drop i text) ≡ drop i text
rest_is text i = take_all (length text - i) (drop i text) (let e = length-drop i text in omega arith)

pub run_piece : (text xs : List ℕ) (i n : ℕ) → xs ≡ drop i text → flat_map escaped (take n xs) ≡ take n xs → flat_map escaped (drop i text) ≡ take n xs ++ flat_map escaped (drop (i + n) text)
run_piece text xs i n e h =
    ap (flat_map escaped) (sym e ∙ sym (take-append-drop n xs))
    ∙ flat_map-append escaped (take n xs) (drop n xs)
    ∙ ap (λ ys. ys ++ flat_map escaped (drop n xs)) h
    ∙ ap (λ ys. take n xs ++ flat_map escaped ys) (ap (drop n) e ∙ drop-drop n i text)

-- no run is left
pub at_end : (text q : List ℕ) (i : ℕ) → length text ≤ i → flat_map escaped (drop i text) ++ q ≡ q
at_end text q i h = ap (λ xs. flat_map escaped xs ++ q) (drop_of_length-le text h)
