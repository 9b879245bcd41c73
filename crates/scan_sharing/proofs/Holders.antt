-- The numbers of holders as a set, rising.
use Rattle.std.proofs.Common.{◌≡◌, ℕ, ◌+◌, ◌≤◌, List, [], ◌∷◌, length, Bool, true, false, ◌||◌, cond, eqb, nat_lt, refl, sym, ap, ◌∙◌, arith}
use Rattle.std.proofs.lemmas.Bool.Decides.{nat_tests}
use Rattle.std.specs.Ordering.{nat_cmp}
use Rattle.std.specs.BTreeMap.{is_at}
use Rattle.std.specs.BTreeSet.{insert_key}
use Rattle.std.specs.List.{list_any}
use Rattle.std.specs.Set.{remove_key}
use Rattle.scan_segments.specs.Source.{without, has}
use Rattle.scan_segments.proofs.LiveSets.{at-id, has-any}

insert_step : (a b : Bool) (n x : ℕ) (xs : List ℕ) → nat_lt n x ≡ a → eqb n x ≡ b → length (insert_key nat_cmp xs n) ≤ length xs + 1 → length (insert_key nat_cmp (x ∷ xs) n) ≤ length (x ∷ xs) + 1
insert_step true b n x xs p q ih = rw p (omega arith)
insert_step false true n x xs p q ih = rw (p, q) (omega arith)
insert_step false false n x xs p q ih = rw (p, q) (omega arith)

-- a set is longer by one number at most
pub insert_long : (n : ℕ) (xs : List ℕ) → length (insert_key nat_cmp xs n) ≤ length xs + 1
insert_long n [] = omega arith
insert_long n (x ∷ xs) = insert_step (nat_lt n x) (eqb n x) n x xs refl refl (insert_long n xs)

neither : (a b : Bool) → (a || b) ≡ false → (a ≡ false) × (b ≡ false)
neither true b e = absurd (cc)
neither false b e = (refl, e)

-- what is not there is not taken out
untouched : (n : ℕ) (xs : List ℕ) → has n xs ≡ false → without n xs ≡ xs
untouched n [] h = refl
untouched n (x ∷ xs) h = let k = neither (eqb x n) (has n xs) h in rw (k.0, untouched n xs k.1) refl

removed_step : (b : Bool) (n x : ℕ) (xs : List ℕ) → eqb x n ≡ b → (has n (remove_key (is_at (nat_cmp n)) xs) ≡ false → remove_key (is_at (nat_cmp n)) xs ≡ without n xs)
    → has n (remove_key (is_at (nat_cmp n)) (x ∷ xs)) ≡ false → remove_key (is_at (nat_cmp n)) (x ∷ xs) ≡ without n (x ∷ xs)
removed_step true n x xs eq ih h = let k : has n xs ≡ false = rw (at-id n x, eq) at h in rw (at-id n x, eq) (sym (untouched n xs k))
removed_step false n x xs eq ih h =
    let k : has n (x ∷ remove_key (is_at (nat_cmp n)) xs) ≡ false = rw (at-id n x, eq) at h in
    rw (at-id n x, eq) (ap (λ ns. x ∷ ns) (ih (neither (eqb x n) (has n (remove_key (is_at (nat_cmp n)) xs)) k).1))

-- where a number is not there once it is taken out, the others are left
pub removed : (n : ℕ) (xs : List ℕ) → has n (remove_key (is_at (nat_cmp n)) xs) ≡ false → remove_key (is_at (nat_cmp n)) xs ≡ without n xs
removed n [] h = refl
removed n (x ∷ xs) h = removed_step (eqb x n) n x xs refl (removed n xs) h

-- the keys of a set that a number was taken out of
pub taken : (n : ℕ) (xs ys : List ℕ) → ys ≡ remove_key (is_at (nat_cmp n)) xs → list_any (is_at (nat_cmp n)) ys ≡ false → ys ≡ without n xs
taken n xs ys is gone = is ∙ removed n xs (sym (ap (has n) is) ∙ sym (has-any n ys) ∙ gone)
