-- One name more.
use Rattle.std.proofs.Common.{◌≡◌, ℕ, suc, ◌+◌, ◌<◌, List, [], ◌∷◌, ◌++◌, length, take, drop, get_or, Bool, true, false, cond, ◌||◌, Some, bytes_eq, codes, refl, sym, ap, ◌∙◌, add-one, arith}
use Rattle.std.proofs.Math.Seq.{drop-cons}
use Rattle.std.proofs.lemmas.List.{take_more}
use Rattle.scan_values.specs.Same.{bytes_eq-equivalence}
use Rattle.scan_values.specs.declared.text.NameFault.TheVariants.{Repeated, Reserved}
use Rattle.scan_values.specs.DataType.{Name}
use Rattle.scan_values.specs.NameFaults.{has_name, names_fault}

or_false : (b : Bool) → (b || false) ≡ b
or_false true = refl
or_false false = refl

or_assoc : (a b c : Bool) → (a || (b || c)) ≡ ((a || b) || c)
or_assoc true b c = refl
or_assoc false b c = refl

has_name-push : (n m : Name) (ns : List Name) → has_name n (ns ++ m ∷ []) ≡ (has_name n ns || bytes_eq n m)
has_name-push n m [] = or_false (bytes_eq n m)
has_name-push n m (k ∷ ks) = ap (λ b. bytes_eq n k || b) (has_name-push n m ks) ∙ or_assoc (bytes_eq n k) (has_name n ks) (bytes_eq n m)

pub has_name-more : (n : Name) (ns : List Name) (i : ℕ) (d : Name) → i < length ns → has_name n (take (i + 1) ns) ≡ (has_name n (take i ns) || bytes_eq n (get_or ns i d))
has_name-more n ns i d h = ap (has_name n) (take_more ns i d h) ∙ has_name-push n (get_or ns i d) (take i ns)

-- the first fault from a name on
pub fault-turn : (ns : List Name) (i : ℕ) (n : Name) → i < length ns → n ≡ get_or ns i n
    → names_fault (take i ns) (drop i ns) ≡ cond (bytes_eq n (codes "#validity")) (Some Reserved) (cond (has_name n (take i ns)) (Some Repeated) (names_fault (take (i + 1) ns) (drop (i + 1) ns)))
fault-turn ns i n h e = rw (add-one, drop-cons ns i n, ← e) (ap (λ ms. cond (bytes_eq n (codes "#validity")) (Some Reserved) (cond (has_name n (take i ns)) (Some Repeated) (names_fault ms (drop (suc i) ns)))) more)
  where
    more : take i ns ++ n ∷ [] ≡ take (suc i) ns
    more = sym (ap (λ k. take k ns) (let j : suc i ≡ i + 1 = omega arith in j) ∙ take_more ns i n h ∙ ap (λ m. take i ns ++ m ∷ []) (sym e))

pub same_bytes : (a b : Name) → bytes_eq a b ≡ bytes_eq b a
same_bytes a b = bytes_eq-equivalence.symm a b
