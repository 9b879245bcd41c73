-- Names and paths of names in ordered sets.
use Rattle.std.proofs.Common.{◌≡◌, ℕ, ◌+◌, ◌<◌, Bool, true, false, cond, ◌||◌, ◌&&◌, List, [], ◌∷◌, ◌++◌, length, get_or, take, map, bytes_eq, Bor, refl, sym, ap, ◌∙◌}
use Rattle.std.specs.declared.alloc.Global.{Global}
use Rattle.std.specs.declared.vec.Vec.{Vec}
use Rattle.std.specs.declared.cmp.Ordering.{Ordering}
use Rattle.std.specs.declared.cmp.Ordering.TheVariants.{Less, Equal, Greater}
use Rattle.std.specs.Ordering.{nat_cmp, is_eq, ordering_then}
use Rattle.std.specs.Cmp.Lexicographic.{slice_cmp}
use Rattle.std.specs.BTreeSet.{BTreeSet, UpdatesBy}
use Rattle.std.proofs.lemmas.Map.Text.{is_eq-slice_cmp}
use Rattle.std.proofs.lemmas.List.{take_more, map-append}
use Rattle.scan_values.specs.DataType.{Name}
use Rattle.scan_values.specs.NameFaults.{has_name}
use Rattle.scan_values.specs.Same.{bytes_eq-equivalence, same_names}
use Rattle.scan_core.specs.NameSets.{is_seen, path_cmp, names_in}

cond_or : (b c : Bool) → cond b true c ≡ (c || b)
cond_or true true = refl
cond_or true false = refl
cond_or false true = refl
cond_or false false = refl

or_false : (b : Bool) → (b || false) ≡ b
or_false true = refl
or_false false = refl

or_assoc : (a b c : Bool) → (a || (b || c)) ≡ ((a || b) || c)
or_assoc true b c = refl
or_assoc false b c = refl

-- ---- names
pub none_seen : (seen : BTreeSet (Bor (List ℕ))) (n : Name) → seen.keys ≡ [] → is_seen seen n ≡ false
none_seen seen n h = rw h refl

has_more : (n : Name) (ns : List Name) (m : Name) → has_name n (ns ++ m ∷ []) ≡ (has_name n ns || bytes_eq n m)
has_more n [] m = or_false (bytes_eq n m)
has_more n (o ∷ ns) m = ap (λ b. bytes_eq n o || b) (has_more n ns m) ∙ or_assoc (bytes_eq n o) (has_name n ns) (bytes_eq n m)

-- the names so far, and one more
pub seen_turn : (ns : List Name) (i : ℕ) (q : Bor (List ℕ)) (m : Name) (old new : BTreeSet (Bor (List ℕ))) → i < length ns → m ≡ get_or ns i m → q.now ≡ m
    → UpdatesBy (λ x y. slice_cmp nat_cmp x.now y.now) (λ k. slice_cmp nat_cmp q.now k.now) old new true
    → ((n : Name) → is_seen old n ≡ has_name n (take i ns)) → (n : Name) → is_seen new n ≡ has_name n (take (i + 1) ns)
seen_turn ns i q m old new h at is u was n =
    let more : take (i + 1) ns ≡ take i ns ++ m ∷ [] = take_more ns i m h ∙ ap (λ z. take i ns ++ z ∷ []) (sym at) in
    let all : has_name n (take (i + 1) ns) ≡ (has_name n (take i ns) || bytes_eq n m) = ap (has_name n) more ∙ has_more n (take i ns) m in
    u.0 (record { ref_ptr = q.ref_ptr; now = n }) ∙ ap (λ b. cond b true (is_seen old n)) (is_eq-slice_cmp q.now n) ∙ cond_or (bytes_eq q.now n) (is_seen old n)
    ∙ ap (λ b. b || bytes_eq q.now n) (was n) ∙ ap (λ x. has_name n (take i ns) || bytes_eq x n) is ∙ ap (λ b. has_name n (take i ns) || b) (bytes_eq-equivalence.symm m n) ∙ sym all

-- ---- paths
then_eq : (o p : Ordering) → is_eq (ordering_then o p) ≡ (is_eq o && is_eq p)
then_eq Less p = refl
then_eq Equal p = refl
then_eq Greater p = refl

-- the order finds equal what has the same names
texts_same : (xs ys : List (Bor (List ℕ))) → is_eq (slice_cmp (λ m n. slice_cmp nat_cmp m.now n.now) xs ys) ≡ same_names (map (λ n. n.now) xs) (map (λ n. n.now) ys)
texts_same [] [] = refl
texts_same [] (y ∷ ys) = refl
texts_same (x ∷ xs) [] = refl
texts_same (x ∷ xs) (y ∷ ys) =
    then_eq (slice_cmp nat_cmp x.now y.now) (slice_cmp (λ m n. slice_cmp nat_cmp m.now n.now) xs ys)
    ∙ ap (λ b. b && is_eq (slice_cmp (λ m n. slice_cmp nat_cmp m.now n.now) xs ys)) (is_eq-slice_cmp x.now y.now)
    ∙ ap (λ b. bytes_eq x.now y.now && b) (texts_same xs ys)

pub paths_same : (p q : Vec (Bor Name) Global) → is_eq (path_cmp p q) ≡ same_names (names_in p) (names_in q)
paths_same p q = texts_same p.items q.items

-- one more text of a path
pub texts_turn : (xs : List (Bor (List ℕ))) (ns : List Name) (i : ℕ) (q : Bor (List ℕ)) (m : Name) → i < length ns → m ≡ get_or ns i m → q.now ≡ m → map (λ n. n.now) xs ≡ take i ns → map (λ n. n.now) (xs ++ q ∷ []) ≡ take (i + 1) ns
texts_turn xs ns i q m h at is was =
    map-append (λ n. n.now) xs (q ∷ []) ∙ ap (λ z. z ++ q.now ∷ []) was ∙ ap (λ z. take i ns ++ z ∷ []) is ∙ sym (take_more ns i m h ∙ ap (λ z. take i ns ++ z ∷ []) (sym at))
