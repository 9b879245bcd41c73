-- What is no good has arrived.
use Rattle.std.proofs.Common.{◌≡◌, ℕ, ◌+◌, ◌-◌, ◌==◌, ◌<◌, ◌≤◌, Bool, true, false, ◌||◌, ◌&&◌, List, [], ◌∷◌, Option, Some, None, is_none, refl, ap, ◌∙◌, sym, arith}
use Rattle.std.specs.Prelude.{if◌then◌else◌, nat_le, nat_lt, option_and_then}
use Rattle.std.proofs.lemmas.Bool.{eqb-true}
use Rattle.std.proofs.lemmas.Bool.Decides.{nat_tests}
use Rattle.scan_values.specs.Damage.{damaged}
use Rattle.scan_values.specs.DataType.{DataType, nullability_of}
use Rattle.scan_values.specs.declared.ptype.Nullability.{Nullability}
use Rattle.scan_values.specs.declared.ptype.Nullability.TheVariants.{NonNullable, Nullable}
use Rattle.scan_segments.specs.Source.{Store}
use Rattle.scan_spelling.specs.Places.{Place, places_of}
use Rattle.scan_spelling.specs.Spelling.{decode}
use Rattle.scan_layout.specs.RowValue.{item_of, leaf_value, offset_of, segment_value}
use Rattle.scan_plans.specs.Came.{Came, arrived}
use Rattle.scan_plans.specs.Futures.{FutureData, masks_in, rows_of, future_spoiled}
use Rattle.scan_plans.specs.Lists.{offset_rows, element_rows, is_bad_offset, before_next}
use Rattle.scan_plans.specs.MaskLists.{masks_spoiled}
use Rattle.scan_plans.specs.Masks.{Filter, MaskData, filters_spoiled, kept, mask_wanted}
use Rattle.scan_plans.specs.Meaning.{true_rows}
use Rattle.scan_plans.specs.OffsetsData.{OffsetsData, offset_at, offset_places}
use Rattle.scan_plans.specs.PlanTree.{PlanTree, leaf, rows, evaluate, over, constant, lists, lengths, valid, numbers, by_lengths, PlanTrees, no_plans, plan}
use Rattle.scan_plans.specs.Wants.{holds_any, leaf_wanted, offsets_wanted, are_here, knows_elements, wanted, names_id, is_bad, spoils, any_bad, offsets_spoiled, spoiled, any_spoiled}
use Rattle.scan_plans.proofs.LeafLemmas.{wanted_before}
use Rattle.scan_plans.proofs.LeafWalk.{no_rows_wanted}
use Rattle.scan_plans.proofs.Wanting.{names_append}

and_false : (b : Bool) → (b && false) ≡ false
and_false true = refl
and_false false = refl

if_false : (b c : Bool) → c ≡ false → (if b then c else false) ≡ false
if_false true c e = e
if_false false c e = refl

damaged_none : (n : Nullability) → offset_of (damaged n) ≡ None
damaged_none NonNullable = refl
damaged_none Nullable = refl

-- ---- an offset
-- a row of a leaf whose segment has not come has no offset
no_offset : (t : DataType) (store : Store) (ps : List Place) (base i j id : ℕ) → j ≡ base + i → store id ≡ None → names_id id (leaf_wanted base ps (j ∷ [])) ≡ true → offset_of (leaf_value t store ps i) ≡ None
no_offset t store [] base i j id at e h = damaged_none (nullability_of t)
no_offset t store (p ∷ ps) base i j id at e h = by (nat_lt i p.rows) refl (λ next k. no_offset t store ps (base + p.rows) (i - p.rows) j id next e k)
  where
    one : List Place
    one = if holds_any base p.rows (j ∷ []) then p ∷ [] else []

    both : (names_id id one || names_id id (leaf_wanted (base + p.rows) ps (j ∷ []))) ≡ true
    both = sym (names_append id one (leaf_wanted (base + p.rows) ps (j ∷ []))) ∙ h

    -- it is this segment
    own : (b : Bool) → names_id id (if b then p ∷ [] else []) ≡ true → (p.id == id) ≡ true
    own true k = single (p.id == id) k
      where
        single : (c : Bool) → (c || false) ≡ true → c ≡ true
        single true m = refl
        single false m = absurd cc
    own false k = absurd cc

    here : names_id id one ≡ true → offset_of (segment_value store p i) ≡ None
    here k =
        let same : p.id ≡ id = eqb-true p.id id (own (holds_any base p.rows (j ∷ [])) k) in
        ap (λ o. offset_of (item_of p.dtype i (option_and_then (decode p.spelling p.dtype p.rows) o))) (ap store same ∙ e) ∙ damaged_none (nullability_of p.dtype)

    by : (b : Bool) → nat_lt i p.rows ≡ b → (j ≡ base + p.rows + (i - p.rows) → names_id id (leaf_wanted (base + p.rows) ps (j ∷ [])) ≡ true → offset_of (leaf_value t store ps (i - p.rows)) ≡ None)
        → offset_of (if b then segment_value store p i else leaf_value t store ps (i - p.rows)) ≡ None
    by true q later = here (by_rest (names_id id one) (leaf_wanted (base + p.rows) ps (j ∷ [])) past both)
      where
        past : leaf_wanted (base + p.rows) ps (j ∷ []) ≡ []
        past = wanted_before ps (base + p.rows) j (true ∷ []) [] (let lt : i < p.rows = grind (arith, nat_tests, q) in omega (arith, at, lt)) ∙ no_rows_wanted (base + p.rows) ps

        by_rest : (b : Bool) (qs : List Place) → qs ≡ [] → (b || names_id id qs) ≡ true → b ≡ true
        by_rest true qs z k = refl
        by_rest false qs z k = ap (names_id id) (sym z) ∙ k
    by false q later =
        let le : p.rows ≤ i = grind (arith, nat_tests, q) in
        later (omega (arith, at, le)) (by_one (nat_lt j (base + p.rows)) (let past : base + p.rows ≤ j = omega (arith, at, le) in grind (arith, nat_tests, past)) both)
      where
        by_one : (b : Bool) → b ≡ false → (names_id id (if (nat_le base j && b) || false then p ∷ [] else []) || names_id id (leaf_wanted (base + p.rows) ps (j ∷ []))) ≡ true
            → names_id id (leaf_wanted (base + p.rows) ps (j ∷ [])) ≡ true
        by_one true z k = absurd cc
        by_one false z k = go (nat_le base j) k
          where
            go : (c : Bool) → (names_id id (if (c && false) || false then p ∷ [] else []) || names_id id (leaf_wanted (base + p.rows) ps (j ∷ []))) ≡ true → names_id id (leaf_wanted (base + p.rows) ps (j ∷ [])) ≡ true
            go true m = m
            go false m = m

-- ---- what has not come is not found to be no good
none_bad : (ps : List Place) (here : Came) (id : ℕ) → here id ≡ None → spoils ps here id ≡ false
none_bad [] here id e = refl
none_bad (p ∷ ps) here id e = (λ k. ((p.id == id) && is_bad p (e k)) || none_bad ps here id e k) ∙ ap (λ b. b || false) (and_false (p.id == id))

no_bad_offset : (o : OffsetsData) (store : Store) (before : ℕ) (is : List ℕ) (id : ℕ) → store id ≡ None → any_bad o store before is id ≡ false
no_bad_offset o store before [] id e = refl
no_bad_offset o store before (i ∷ is) id e = λ k. one (names_id id (leaf_wanted 0 (offset_places o) (i ∷ []))) refl k || no_bad_offset o store (before_next (offset_at o store i)) is id e k
  where
    one : (b : Bool) → names_id id (leaf_wanted 0 (offset_places o) (i ∷ [])) ≡ b → (is_bad_offset o.elements before (offset_at o store i) && b) ≡ false
    one true q = ap (λ x. is_bad_offset o.elements before x && true) (no_offset o.dtype store (offset_places o) 0 i i id (omega arith) e q)
    one false q = and_false (is_bad_offset o.elements before (offset_at o store i))

missing : (here : Came) (id : ℕ) → here id ≡ None → arrived here id ≡ None
missing here id e = ap (option_and_then (λ bytes. bytes)) e

offsets_clear : (o : OffsetsData) (here : Came) (is : List ℕ) (id : ℕ) → here id ≡ None → offsets_spoiled o here is id ≡ false
offsets_clear o here is id e = λ k. none_bad (offsets_wanted o is) here id e k || no_bad_offset o (arrived here) 0 (offset_rows is) id (missing here id e) k

mutual
  plan_clear : (p : PlanTree) (here : Came) (is : List ℕ) (id : ℕ) → here id ≡ None → spoiled p here is id ≡ false
  plan_clear (leaf d s gs) here is id e = none_bad (leaf_wanted 0 (places_of d s gs) is) here id e
  plan_clear (rows d vs) here is id e = refl
  plan_clear (evaluate d x p) here is id e = plan_clear p here is id e
  plan_clear (over d x ps) here is id e = plans_clear ps here is id e
  plan_clear (constant d x) here is id e = refl
  plan_clear (lists d p o) here is id e =
      let elements = spoiled p here (element_rows o (arrived here) is) id in
      let known = knows_elements o here is in
      (λ k. offsets_clear o here is id e k || (if known then elements else false)) ∙ if_false known elements (plan_clear p here (element_rows o (arrived here) is) id e)
  plan_clear (lengths o) here is id e = offsets_clear o here is id e
  plan_clear (valid p v) here is id e = λ k. plan_clear v here is id e k || plan_clear p here is id e k
  plan_clear (numbers n) here is id e = refl
  plan_clear (by_lengths d x t f p) here is id e = plan_clear p here is id e

  plans_clear : (ps : PlanTrees) (here : Came) (is : List ℕ) (id : ℕ) → here id ≡ None → any_spoiled ps here is id ≡ false
  plans_clear no_plans here is id e = refl
  plans_clear (plan p ps) here is id e = λ k. plan_clear p here is id e k || plans_clear ps here is id e k

-- ---- masks, and a future
filters_clear : (here : Came) (bits : List Bool) (fs : List Filter) (id : ℕ) → here id ≡ None → filters_spoiled here bits fs id ≡ false
filters_clear here bits [] id e = refl
filters_clear here bits (f ∷ fs) id e =
    let rest = filters_spoiled here (kept f.0 (arrived here) f.1 bits) fs id in
    let known = are_here (wanted f.0 here (true_rows f.1 bits)) here in
    (λ k. plan_clear f.0 here (true_rows f.1 bits) id e k || (if known then rest else false)) ∙ if_false known rest (filters_clear here (kept f.0 (arrived here) f.1 bits) fs id e)

masks_clear : (here : Came) (ms : List MaskData) (bad : Bool) (id : ℕ) → here id ≡ None → bad ≡ false → masks_spoiled ms here id bad ≡ false
masks_clear here [] bad id e b = b
masks_clear here (m ∷ ms) bad id e b =
    let rest = masks_spoiled ms here id bad in
    let known = are_here (mask_wanted m here) here in
    (λ k. filters_clear here m.known m.filters id e k || (if known then rest else false)) ∙ if_false known rest (masks_clear here ms bad id e b)

-- something of what a future finds no good has arrived
pub future_bad_here : (f : FutureData) (here : Came) (id : ℕ) → future_spoiled f here id ≡ true → is_none (here id) ≡ false
future_bad_here f here id h = go (here id) refl
  where
    go : (o : Option (Option (List ℕ))) → here id ≡ o → is_none o ≡ false
    go None e = absurd (let z : false ≡ true = sym (masks_clear here (masks_in f) (spoiled f.tree here (rows_of f (arrived here)) id) id e (plan_clear f.tree here (rows_of f (arrived here)) id e)) ∙ h in cc)
    go (Some x) e = refl
