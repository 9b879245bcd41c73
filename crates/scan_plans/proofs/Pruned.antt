-- What a pruning that drops nothing keeps, and what fewer rows want.
use Rattle.std.proofs.Common.{◌≡◌, ℕ, zero, suc, ◌+◌, Bool, true, false, not, ◌||◌, ◌&&◌, List, [], ◌∷◌, get_or, Result, Ok, Err, refl, ap, subst, ◌∙◌, sym}
use Rattle.std.specs.Prelude.{if◌then◌else◌, nat_le, nat_lt, IfOk}
use Rattle.std.specs.List.{list_any, list_all}
use Rattle.scan_values.specs.Marked.{is_true}
use Rattle.scan_values.specs.Masks.{both_true}
use Rattle.scan_segments.specs.Source.{Store}
use Rattle.scan_spelling.specs.Places.{Place}
use Rattle.scan_plans.specs.Came.{Came}
use Rattle.scan_plans.specs.Masks.{MaskData, kept, filtered, filters_wanted, mask_of, mask_wanted}
use Rattle.scan_plans.specs.Meaning.{value_at, true_rows}
use Rattle.scan_plans.specs.PlanTree.{PlanTree, evaluate, numbers}
use Rattle.scan_plans.specs.Pruning.{are_numbers, is_numbered, pruned, IsWithin, DropsNone, FiltersAlike}
use Rattle.scan_plans.specs.Wants.{holds_any, leaf_wanted, wanted, names_id}
use Rattle.scan_plans.proofs.LeafWalk.{no_rows_wanted}
use Rattle.scan_plans.proofs.Wanting.{either, names_append}

left : (a b : Bool) → (a && b) ≡ true → a ≡ true
left true b h = refl
left false b h = h

pub kept_within : (p : PlanTree) (store : Store) (k : ℕ) (bits : List Bool) → IsWithin (kept p store k bits) bits
kept_within p store k [] i h = h
kept_within p store k (b ∷ bits) zero h = left b (is_true (value_at p store k)) h
kept_within p store k (b ∷ bits) (suc i) h = kept_within p store (k + 1) bits i h

both_itself : (bits : List Bool) → both_true bits bits ≡ bits
both_itself [] = refl
both_itself (true ∷ bits) = ap (λ bs. true ∷ bs) (both_itself bits)
both_itself (false ∷ bits) = ap (λ bs. false ∷ bs) (both_itself bits)

pub filters_alike : (p : PlanTree) (store : Store) (k : ℕ) (bits : List Bool) → FiltersAlike p store k bits bits
filters_alike p store k bits = ap (kept p store k) (both_itself bits)

-- ---- over the numbers of rows
numbers_want : (p : PlanTree) → are_numbers p ≡ true → (here : Came) (is : List ℕ) → ◌≡◌ {A = List Place} (wanted p here is) []
numbers_want (numbers k) h here is = refl
numbers_want _ h here is = absurd cc

pub numbered_wants : (p : PlanTree) → is_numbered p ≡ true → (here : Came) (is : List ℕ) → ◌≡◌ {A = List Place} (wanted p here is) []
numbered_wants (evaluate d e p) h here is = numbers_want p h here is
numbered_wants _ h here is = absurd cc

and_again : (b t : Bool) → ((b && (b && t)) && t) ≡ (b && t)
and_again true true = refl
and_again true false = refl
and_again false t = refl

pub kept_again : (p : PlanTree) (store : Store) (k : ℕ) (bits : List Bool) → FiltersAlike p store k bits (kept p store k bits)
kept_again p store k [] = refl
kept_again p store k (b ∷ bits) = rw (and_again b (is_true (value_at p store k))) (ap (λ bs. (b && is_true (value_at p store k)) ∷ bs) (kept_again p store (k + 1) bits))

-- what pruning leaves
module _ (p : PlanTree) (first : ℕ) (mask : List Bool) where
  pub pruned_wants : (here : Came) → ◌≡◌ {A = List Place} (mask_wanted (pruned p first mask) here) []
  pruned_wants here = by (is_numbered p) refl
    where
      by : (b : Bool) → is_numbered p ≡ b → ◌≡◌ {A = List Place} (filters_wanted here mask (if b then (p, first) ∷ [] else [])) []
      by true h = rw (numbered_wants p h here (true_rows first mask)) refl
      by false h = refl

  pub pruned_keeps : (store : Store) → DropsNone p store first mask (mask_of (pruned p first mask) store)
  pruned_keeps store = by (is_numbered p)
    where
      by : (b : Bool) → IsWithin (kept p store first mask) (filtered store mask (if b then (p, first) ∷ [] else []))
      by true = λ i h. h
      by false = kept_within p store first mask

  pub pruned_alike : (store : Store) → FiltersAlike p store first mask (mask_of (pruned p first mask) store)
  pruned_alike store = by (is_numbered p)
    where
      by : (b : Bool) → FiltersAlike p store first mask (filtered store mask (if b then (p, first) ∷ [] else []))
      by true = kept_again p store first mask
      by false = filters_alike p store first mask

pub of_pruned : {E : Type 0} (P : MaskData → Type 0) (m : MaskData) (r : Result MaskData E) → P m → IfOk r (λ x. x ≡ m) → IfOk r P
of_pruned P m (Ok x) p h = subst P (sym h) p
of_pruned P m (Err e) p h = tt

-- ---- fewer rows
or_true : (b : Bool) → (b || true) ≡ true
or_true true = refl
or_true false = refl

pub none_past : (i : ℕ) → get_or [] (suc i) false ≡ true → get_or [] i false ≡ true
none_past zero h = h
none_past (suc i) h = h

-- a test that one of fewer rows passes
pub more_pass : (f : ℕ → Bool) (k : ℕ) (less mask : List Bool) → IsWithin less mask → list_any f (true_rows k less) ≡ true → list_any f (true_rows k mask) ≡ true
more_pass f k [] mask w h = absurd cc
more_pass f k (true ∷ less) [] w h = absurd (let z = w 0 refl in cc)
more_pass f k (false ∷ less) [] w h = more_pass f (k + 1) less [] (λ i e. none_past i (w (suc i) e)) h
more_pass f k (true ∷ less) (true ∷ mask) w h = by (f k) h (more_pass f (k + 1) less mask (λ i e. w (suc i) e))
  where
    by : (b : Bool) → (b || list_any f (true_rows (k + 1) less)) ≡ true → (list_any f (true_rows (k + 1) less) ≡ true → list_any f (true_rows (k + 1) mask) ≡ true) → (b || list_any f (true_rows (k + 1) mask)) ≡ true
    by true h g = refl
    by false h g = g h
more_pass f k (true ∷ less) (false ∷ mask) w h = absurd (let z = w 0 refl in cc)
more_pass f k (false ∷ less) (true ∷ mask) w h = rw (more_pass f (k + 1) less mask (λ i e. w (suc i) e) h) (or_true (f k))
more_pass f k (false ∷ less) (false ∷ mask) w h = more_pass f (k + 1) less mask (λ i e. w (suc i) e) h

pub leaves_rise : (places : List Place) (base first : ℕ) (less mask : List Bool) (id : ℕ) → IsWithin less mask → names_id id (leaf_wanted base places (true_rows first less)) ≡ true → names_id id (leaf_wanted base places (true_rows first mask)) ≡ true
leaves_rise [] base first less mask id w h = h
leaves_rise (p ∷ ps) base first less mask id w h =
    let is = true_rows first less in
    let js = true_rows first mask in
    names_append id (if holds_any base p.rows js then p ∷ [] else []) (leaf_wanted (base + p.rows) ps js)
    ∙ either (names_id id (if holds_any base p.rows is then p ∷ [] else [])) (names_id id (leaf_wanted (base + p.rows) ps is)) (names_id id (if holds_any base p.rows js then p ∷ [] else [])) (names_id id (leaf_wanted (base + p.rows) ps js))
    (sym (names_append id (if holds_any base p.rows is then p ∷ [] else []) (leaf_wanted (base + p.rows) ps is)) ∙ h)
    (held (holds_any base p.rows is) (holds_any base p.rows js) (more_pass (λ i. nat_le base i && nat_lt i (base + p.rows)) first less mask w))
    (leaves_rise ps (base + p.rows) first less mask id w)
  where
    held : (b t : Bool) → (b ≡ true → t ≡ true) → names_id id (if b then p ∷ [] else []) ≡ true → names_id id (if t then p ∷ [] else []) ≡ true
    held true true f n = n
    held true false f n = absurd (let z = f refl in cc)
    held false t f n = absurd cc

pub no_rows : (k : ℕ) (mask : List Bool) → list_all not mask ≡ true → true_rows k mask ≡ []
no_rows k [] h = refl
no_rows k (true ∷ mask) h = absurd cc
no_rows k (false ∷ mask) h = no_rows (k + 1) mask h

pub no_row_wants : (places : List Place) (base first : ℕ) (mask : List Bool) → list_all not mask ≡ true → leaf_wanted base places (true_rows first mask) ≡ []
no_row_wants places base first mask h = ap (leaf_wanted base places) (no_rows first mask h) ∙ no_rows_wanted base places
