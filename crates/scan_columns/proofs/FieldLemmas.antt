-- A row of columns, read one column after another.
use Rattle.std.proofs.Common.{◌≡◌, ℕ, zero, suc, ◌+◌, ◌-◌, Some, slice_get, slice_range, ◌<◌, ◌≤◌, List, [], ◌∷◌, ◌++◌, length, map, get_or, take, drop, set, refl, length-append, ap, sym, ◌∙◌, arith, append_assoc}
use Rattle.std.proofs.lemmas.List.{at_drop_more, drop_all, drop-set-lt, take_more_set, append-nil, length-map}
use Rattle.scan_values.specs.Val.{Val}
use Rattle.scan_values.specs.Values.{val_of}
use Rattle.scan_values.specs.declared.value.Value.{Value}
use Rattle.scan_columns.proofs.NestedLemmas.{slice_length}
use Rattle.scan_columns.specs.Nested.{Deep, heads, AreLong}
use Rattle.scan_columns.specs.CellsFall.{deep_falls}
use Rattle.scan_columns.specs.declared.cells.Lists.TheDeep.{deep-Cells}
use Rattle.scan_columns.specs.declared.cells.Cells.{Cells}
use Rattle.scan_columns.specs.Cells.{vals_in, depth_in, deepest}

-- ---- a row, column by column
module _ (cs : List (List Val)) (k : ℕ) (c : List Val) (l : k < length cs) (e : c ≡ get_or cs k c) where
  pub row_more : (row more new whole : List Val) → more ≡ row ++ take 1 c → row ++ heads (drop k cs) ≡ whole → more ++ heads (drop (k + 1) (set cs k new)) ≡ whole
  row_more row more new whole m h =
      (λ i. m i ++ heads (drop-set-lt (k + 1) cs k new (omega arith) i)) ∙ append_assoc row (take 1 c) (heads (drop (k + 1) cs))
      ∙ ap (λ (d : List Val). row ++ (take 1 d ++ heads (drop (k + 1) cs))) e ∙ ap (λ r. row ++ r) (sym (at_drop_more heads cs k c l)) ∙ h

  pub rest_more : (new : List Val) (whole : List (List Val)) → new ≡ drop 1 c → take k cs ++ map (drop 1) (drop k cs) ≡ whole → take (k + 1) (set cs k new) ++ map (drop 1) (drop (k + 1) (set cs k new)) ≡ whole
  rest_more new whole n h =
      (λ i. take_more_set cs k new l i ++ map (drop 1) (drop-set-lt (k + 1) cs k new (omega arith) i)) ∙ append_assoc (take k cs) (new ∷ []) (map (drop 1) (drop (k + 1) cs))
      ∙ ap (λ (d : List Val). take k cs ++ (d ∷ map (drop 1) (drop (k + 1) cs))) (n ∙ ap (drop 1) e) ∙ ap (λ r. take k cs ++ r) (sym (at_drop_more (map (drop 1)) cs k c l)) ∙ h

pub row_done : (cs : List (List Val)) (k : ℕ) (row whole : List Val) → length cs ≤ k → row ++ heads (drop k cs) ≡ whole → row ≡ whole
row_done cs k row whole l h = sym (append-nil row) ∙ ap (λ ds. row ++ heads ds) (sym (drop_all k cs l)) ∙ h

-- ---- the next of a list
pub take_next : {A : Type 0} (xs : List A) (k j : ℕ) → j ≡ k + 1 → take k xs ++ take 1 (drop k xs) ≡ take j xs
take_next xs zero j h = let e : j ≡ 1 = omega (arith, h) in λ i. take (sym e i) xs
take_next xs (suc k) zero h = absurd (omega (arith, h))
take_next [] (suc k) (suc j) h = refl
take_next (x ∷ xs) (suc k) (suc j) h = λ i. x ∷ take_next xs k j (omega (arith, h)) i

pub drop_next : {A : Type 0} (xs : List A) (k j : ℕ) → j ≡ k + 1 → drop 1 (drop k xs) ≡ drop j xs
drop_next xs zero j h = let e : j ≡ 1 = omega (arith, h) in λ i. drop (sym e i) xs
drop_next xs (suc k) zero h = absurd (omega (arith, h))
drop_next [] (suc k) (suc j) h = refl
drop_next (x ∷ xs) (suc k) (suc j) h = drop_next xs k j (omega (arith, h))

-- ---- columns of cells
pub long_at : (n : ℕ) (cs : List Cells) (k : ℕ) (c : Cells) → AreLong n (map vals_in cs) → k < length cs → c ≡ get_or cs k c → length (vals_in c) ≡ n
long_at n [] k c h l e = absurd (omega (arith, l))
long_at n (d ∷ cs) zero c h l e = ap (λ z. length (vals_in z)) e ∙ h.0
long_at n (d ∷ cs) (suc k) c h l e = long_at n cs k c h.1 (omega (arith, l)) e

pub deep_at : (cs : List Cells) (k : ℕ) (c : Cells) → k < length cs → c ≡ get_or cs k c → depth_in c ≤ deepest cs
deep_at [] k c l e = absurd (omega (arith, l))
deep_at (d ∷ cs) zero c l e = let same : depth_in c ≡ depth_in d = ap depth_in e in omega (arith, same)
deep_at (d ∷ cs) (suc k) c l e = omega (arith, deep_at cs k c (omega (arith, l)) e)

-- the end of a loop over columns
pub columns_done : {A : Type 0} (f : List Cells → List A) (cs : List Cells) (k : ℕ) (made whole : List A) → f [] ≡ [] → length cs ≤ k → made ++ f (drop k cs) ≡ whole → made ≡ whole
columns_done f cs k made whole e l h = sym (append-nil made) ∙ ap (λ r. made ++ r) (sym e) ∙ ap (λ ds. made ++ f ds) (sym (drop_all k cs l)) ∙ h

pub child_falls : (cs : List Cells) (k : ℕ) (c : Cells) (now : Deep) → k < length cs → c ≡ get_or cs k c → deepest cs ≡ now.depth → deep-Cells c ≤ now.depth
child_falls cs k c now l e h = omega (arith, deep_falls c, deep_at cs k c l e, h)

-- ---- the one value of a place
one_at : (vs : List Val) (i : ℕ) (w : Val) → i < length vs → w ∷ [] ≡ take 1 (drop i vs) → Some w ≡ slice_get vs i
one_at [] i w l h = absurd (omega (arith, l))
one_at (v ∷ vs) zero w l h = cc
one_at (v ∷ vs) (suc i) w l h = one_at vs i w (omega (arith, l)) h

pub one_popped : (vs : List Val) (i j : ℕ) (news : List Value) (v : Value) → i < length vs → j ≡ i + 1 → map val_of (news ++ (v ∷ [])) ≡ slice_range vs i j → Some (val_of v) ≡ slice_get vs i
one_popped vs i j [] v l e h = let one : j - i ≡ 1 = omega (arith, e) in one_at vs i (val_of v) l (h ∙ ap (λ k. take k (drop i vs)) one)
one_popped vs i j (n ∷ news) v l e h =
    let count : suc (length (news ++ (v ∷ []))) ≡ j - i = ap suc (sym (length-map (news ++ (v ∷ [])) val_of)) ∙ ap length h ∙ slice_length i j vs (omega (arith, e)) (omega (arith, e, l)) in
    absurd (omega (arith, e, count, length-append news (v ∷ [])))
