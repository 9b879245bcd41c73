-- Of some segments one passes a test: below a step, where it is needed, and in more rows.
use Rattle.std.proofs.Common.{◌≡◌, ℕ, zero, suc, ◌+◌, ◌<◌, ◌≤◌, Bool, true, false, ◌||◌, ◌&&◌, List, [], ◌∷◌, ◌++◌, length, filter, max, min, refl, ap, sym, ◌∙◌, arith}
use Rattle.std.specs.Prelude.{if◌then◌else◌, nat_le, nat_lt}
use Rattle.std.specs.List.{list_any}
use Rattle.std.proofs.lemmas.Bool.{ltb-true, lt-ltb}
use Rattle.std.proofs.lemmas.Bool.Decides.{nat_tests}
use Rattle.std.proofs.lemmas.List.Folds.{list_any-append}
use Rattle.scan_values.specs.DataType.{DataType}
use Rattle.scan_values.specs.Marked.{Marked}
use Rattle.scan_values.specs.Paths.{Path, Step, to_validity, to_offsets, to_elements}
use Rattle.scan_segments.specs.Source.{Store}
use Rattle.scan_layout.specs.declared.node.LayoutKind.TheVariants.{Leaf, Struct, List as List'}
use Rattle.scan_spelling.specs.declared.spelling.Spelling.{Spelling}
use Rattle.scan_layout.specs.Check.{child_types}
use Rattle.scan_layout.specs.Form.{HasForm, HaveForms, AllHaveRows}
use Rattle.scan_layout.specs.Laws.{Each}
use Rattle.scan_layout.specs.Layout.{Layout, Nodes, node, no_nodes, child, rows_of}
use Rattle.scan_spelling.specs.Places.{Place, place_of, places_of}
use Rattle.scan_layout.specs.RowValue.{nth_value, nth_rows}
use Rattle.scan_layout.specs.Touched.{touched, below_step, nth_touched, all_touched, leaf_touched, under_step, struct_steps, element_from, element_to}
use Rattle.scan_layout.proofs.Local.{Within, within_less, within_rows, validity_within, offsets_within, from_fewer, to_fewer, to_most, element_places, inner_places, list_places}
use Rattle.scan_plans.specs.Meaning.{true_rows}
use Rattle.scan_plans.specs.Wants.{holds_any, leaf_wanted}
use Rattle.scan_plans.proofs.RowLemmas.{none_of_rows}

-- ---- booleans
pub or_of : (a b c d : Bool) → (a || b) ≡ true → (a ≡ true → c ≡ true) → (b ≡ true → d ≡ true) → (c || d) ≡ true
or_of true b c d h f g = rw (f refl) refl
or_of false b true d h f g = refl
or_of false b false d h f g = g h

pub or_left : (a b : Bool) → a ≡ true → (a || b) ≡ true
or_left true b h = refl
or_left false b h = absurd cc

pub or_right : (a b : Bool) → b ≡ true → (a || b) ≡ true
or_right true b h = refl
or_right false b h = h

or_assoc : (a b c : Bool) → (a || (b || c)) ≡ ((a || b) || c)
or_assoc true b c = refl
or_assoc false b c = refl

pub either : (a b c : Bool) → (a || b) ≡ true → (a ≡ true → c ≡ true) → (b ≡ true → c ≡ true) → c ≡ true
either true b c h f g = f refl
either false b c h f g = g h

-- ---- tests
pub any_mono : (S T : Place → Bool) → ((p : Place) → S p ≡ true → T p ≡ true) → (ps : List Place) → list_any S ps ≡ true → list_any T ps ≡ true
any_mono S T f [] h = h
any_mono S T f (p ∷ ps) h = or_of (S p) (list_any S ps) (T p) (list_any T ps) h (f p) (any_mono S T f ps)

any_under : (T : Place → Bool) (step : Step) (ps : List Place) → list_any T (under_step step ps) ≡ list_any (λ p. T (below_step step p)) ps
any_under T step [] = refl
any_under T step (p ∷ ps) = ap (λ b. T (below_step step p) || b) (any_under T step ps)

under_more : (T : Place → Bool) (step : Step) (xs us : List Place) → (list_any (λ p. T (below_step step p)) xs ≡ true → list_any (λ p. T (below_step step p)) us ≡ true) → list_any T (under_step step xs) ≡ true → list_any T (under_step step us) ≡ true
under_more T step xs us f h = any_under T step us ∙ f (sym (any_under T step xs) ∙ h)

both_more : (S T : Place → Bool) (xs ys us vs : List Place) → (list_any S xs ≡ true → list_any T us ≡ true) → (list_any S ys ≡ true → list_any T vs ≡ true) → list_any S (xs ++ ys) ≡ true → list_any T (us ++ vs) ≡ true
both_more S T xs ys us vs f g h = list_any-append T us vs ∙ or_of (list_any S xs) (list_any S ys) (list_any T us) (list_any T vs) (sym (list_any-append S xs ys) ∙ h) f g

if_more : (S T : Place → Bool) (b c : Bool) (xs us : List Place) → (b ≡ true → c ≡ true) → (b ≡ true → list_any S xs ≡ true → list_any T us ≡ true) → list_any S (if b then xs else []) ≡ true → list_any T (if c then us else []) ≡ true
if_more S T true true xs us f g h = g refl h
if_more S T true false xs us f g h = absurd (let z : false ≡ true = f refl in cc)
if_more S T false c xs us f g h = absurd cc

-- ---- where they are needed
pub needed_append : (Q : Path → Bool) (T : Place → Bool) (ps qs : List Place) → list_any T (filter (λ (x : Place). Q x.path) (ps ++ qs)) ≡ (list_any T (filter (λ (x : Place). Q x.path) ps) || list_any T (filter (λ (x : Place). Q x.path) qs))
needed_append Q T [] qs = refl
needed_append Q T (p ∷ ps) qs = by (Q p.path) (needed_append Q T ps qs)
  where
    by : (b : Bool) → list_any T (filter (λ (x : Place). Q x.path) (ps ++ qs)) ≡ (list_any T (filter (λ (x : Place). Q x.path) ps) || list_any T (filter (λ (x : Place). Q x.path) qs))
        → list_any T (if b then p ∷ filter (λ (x : Place). Q x.path) (ps ++ qs) else filter (λ (x : Place). Q x.path) (ps ++ qs))
        ≡ (list_any T (if b then p ∷ filter (λ (x : Place). Q x.path) ps else filter (λ (x : Place). Q x.path) ps) || list_any T (filter (λ (x : Place). Q x.path) qs))
    by true rest = ap (λ z. T p || z) rest ∙ or_assoc (T p) (list_any T (filter (λ (x : Place). Q x.path) ps)) (list_any T (filter (λ (x : Place). Q x.path) qs))
    by false rest = rest

-- below a step, where more is needed
pub below_needed : (P Q : Path → Bool) (step : Step) (S T : Place → Bool) → ((p : Path) → P p ≡ true → Q (step ∷ p) ≡ true) → ((p : Place) → S p ≡ true → T (below_step step p) ≡ true)
    → (ps : List Place) → list_any S (filter (λ (x : Place). P x.path) ps) ≡ true → list_any T (filter (λ (x : Place). Q x.path) (under_step step ps)) ≡ true
below_needed P Q step S T f s [] h = h
below_needed P Q step S T f s (p ∷ ps) h = by (P p.path) (Q (step ∷ p.path)) (f p.path) (below_needed P Q step S T f s ps) h
  where
    by : (b c : Bool) → (b ≡ true → c ≡ true) → (list_any S (filter (λ (x : Place). P x.path) ps) ≡ true → list_any T (filter (λ (x : Place). Q x.path) (under_step step ps)) ≡ true)
        → list_any S (if b then p ∷ filter (λ (x : Place). P x.path) ps else filter (λ (x : Place). P x.path) ps) ≡ true
        → list_any T (if c then below_step step p ∷ filter (λ (x : Place). Q x.path) (under_step step ps) else filter (λ (x : Place). Q x.path) (under_step step ps)) ≡ true
    by true true g rest e = or_of (S p) (list_any S (filter (λ (x : Place). P x.path) ps)) (T (below_step step p)) (list_any T (filter (λ (x : Place). Q x.path) (under_step step ps))) e (s p) rest
    by true false g rest e = absurd (let z : false ≡ true = g refl in cc)
    by false true g rest e = or_right (T (below_step step p)) (list_any T (filter (λ (x : Place). Q x.path) (under_step step ps))) (rest e)
    by false false g rest e = rest e

-- where more is needed
pub needed_more : (P Q : Path → Bool) (T : Place → Bool) → ((p : Path) → P p ≡ true → Q p ≡ true) → (ps : List Place) → list_any T (filter (λ (x : Place). P x.path) ps) ≡ true → list_any T (filter (λ (x : Place). Q x.path) ps) ≡ true
needed_more P Q T f [] h = h
needed_more P Q T f (p ∷ ps) h = by (P p.path) (Q p.path) (f p.path) (needed_more P Q T f ps) h
  where
    by : (b c : Bool) → (b ≡ true → c ≡ true) → (list_any T (filter (λ (x : Place). P x.path) ps) ≡ true → list_any T (filter (λ (x : Place). Q x.path) ps) ≡ true)
        → list_any T (if b then p ∷ filter (λ (x : Place). P x.path) ps else filter (λ (x : Place). P x.path) ps) ≡ true
        → list_any T (if c then p ∷ filter (λ (x : Place). Q x.path) ps else filter (λ (x : Place). Q x.path) ps) ≡ true
    by true true g rest e = or_of (T p) (list_any T (filter (λ (x : Place). P x.path) ps)) (T p) (list_any T (filter (λ (x : Place). Q x.path) ps)) e (λ z. z) rest
    by true false g rest e = absurd (let z : false ≡ true = g refl in cc)
    by false true g rest e = or_right (T p) (list_any T (filter (λ (x : Place). Q x.path) ps)) (rest e)
    by false false g rest e = rest e

-- below a step, where all is needed
pub needed_under : (step : Step) (Q : Path → Bool) (S T : Place → Bool) → ((p : Place) → S p ≡ true → T (below_step step p) ≡ true) → (ps : List Place) → Each (λ p. Q (step ∷ p.path) ≡ true) ps → list_any S ps ≡ true
    → list_any T (filter (λ (p : Place). Q p.path) (under_step step ps)) ≡ true
needed_under step Q S T s [] h n = absurd cc
needed_under step Q S T s (p ∷ ps) h n = rw h.0 (or_of (S p) (list_any S ps) (T (below_step step p)) (list_any T (filter (λ (x : Place). Q x.path) (under_step step ps))) n (s p) (needed_under step Q S T s ps h.1))

-- needed or not
pub needed_all : (T : Place → Bool) (Q : Path → Bool) (ps : List Place) → list_any T (filter (λ (p : Place). Q p.path) ps) ≡ true → list_any T ps ≡ true
needed_all T Q [] h = h
needed_all T Q (p ∷ ps) h = by (Q p.path) h (needed_all T Q ps)
  where
    by : (b : Bool) → list_any T (if b then p ∷ filter (λ (x : Place). Q x.path) ps else filter (λ (x : Place). Q x.path) ps) ≡ true → (list_any T (filter (λ (x : Place). Q x.path) ps) ≡ true → list_any T ps ≡ true) → (T p || list_any T ps) ≡ true
    by true k rest = or_of (T p) (list_any T (filter (λ (x : Place). Q x.path) ps)) (T p) (list_any T ps) k (λ z. z) rest
    by false k rest = or_right (T p) (list_any T ps) (rest k)

-- ---- rows of a leaf
-- a segment that holds a true row of a range meets the range
meets : (base n first : ℕ) (mask : List Bool) (t : Bool) → nat_lt (max base first) (min (base + n) (first + length mask)) ≡ t → holds_any base n (true_rows first mask) ≡ true → t ≡ true
meets base n first mask true e h = refl
meets base n first mask false e h = absurd (let none = none_of_rows (λ i. nat_le base i && nat_lt i (base + n)) first mask (λ i low high. outside i low high) in let z : true ≡ false = sym h ∙ none in cc)
  where
    both : (a b : Bool) → (a ≡ true → b ≡ false) → (a && b) ≡ false
    both true b f = f refl
    both false b f = refl

    outside : (i : ℕ) → first ≤ i → i < first + length mask → (nat_le base i && nat_lt i (base + n)) ≡ false
    outside i low high = both (nat_le base i) (nat_lt i (base + n)) (λ a. grind (arith, nat_tests, e, a, low, high))

pub leaf_touches : (T : Place → Bool) (places : List Place) (base first : ℕ) (mask : List Bool) → list_any T (leaf_wanted base places (true_rows first mask)) ≡ true → list_any T (leaf_touched base places first (first + length mask)) ≡ true
leaf_touches T [] base first mask h = h
leaf_touches T (p ∷ ps) base first mask h =
    let e = first + length mask in
    let is = true_rows first mask in
    both_more T T (if holds_any base p.rows is then p ∷ [] else []) (leaf_wanted (base + p.rows) ps is) (if nat_lt (max base first) (min (base + p.rows) e) then p ∷ [] else []) (leaf_touched (base + p.rows) ps first e)
    (if_more T T (holds_any base p.rows is) (nat_lt (max base first) (min (base + p.rows) e)) (p ∷ []) (p ∷ []) (meets base p.rows first mask (nat_lt (max base first) (min (base + p.rows) e)) refl) (λ _ z. z))
    (leaf_touches T ps (base + p.rows) first mask) h

-- of the segments of a leaf
pub leaf_mono : (S T : Place → Bool) (d : DataType) (sp : Spelling) (gs : List (ℕ × ℕ)) (base a b : ℕ) → ((g : ℕ × ℕ) → S (place_of d sp g) ≡ true → T (place_of d sp g) ≡ true)
    → list_any S (leaf_touched base (places_of d sp gs) a b) ≡ true → list_any T (leaf_touched base (places_of d sp gs) a b) ≡ true
leaf_mono S T d sp [] base a b f h = h
leaf_mono S T d sp (g ∷ gs) base a b f h =
    let t = nat_lt (max base a) (min (base + g.1) b) in
    let one = if t then place_of d sp g ∷ [] else [] in
    let rest = leaf_touched (base + g.1) (places_of d sp gs) a b in
    both_more S T one rest one rest (if_more S T t t (place_of d sp g ∷ []) (place_of d sp g ∷ []) (λ e. e) (λ _ k. or_of (S (place_of d sp g)) false (T (place_of d sp g)) false k (f g) (λ z. z)))
    (leaf_mono S T d sp gs (base + g.1) a b f) h

-- what a range touches a wider one does
wider : (x y a b c d : ℕ) → c ≤ a → b ≤ d → nat_lt (max x a) (min y b) ≡ true → nat_lt (max x c) (min y d) ≡ true
wider x y a b c d low high h = grind (arith, nat_tests, low, high, h)

pub leaf_more : (T : Place → Bool) (base : ℕ) (ps : List Place) (a b c d : ℕ) → c ≤ a → b ≤ d → list_any T (leaf_touched base ps a b) ≡ true → list_any T (leaf_touched base ps c d) ≡ true
leaf_more T base [] a b c d low high h = h
leaf_more T base (p ∷ ps) a b c d low high h =
    both_more T T (if nat_lt (max base a) (min (base + p.rows) b) then p ∷ [] else []) (leaf_touched (base + p.rows) ps a b) (if nat_lt (max base c) (min (base + p.rows) d) then p ∷ [] else []) (leaf_touched (base + p.rows) ps c d)
    (if_more T T (nat_lt (max base a) (min (base + p.rows) b)) (nat_lt (max base c) (min (base + p.rows) d)) (p ∷ []) (p ∷ []) (wider base (base + p.rows) a b c d low high) (λ _ z. z))
    (leaf_more T (base + p.rows) ps a b c d low high) h

-- ---- rows of a layout
wide : (a b c d : ℕ) → c ≤ a → b ≤ d → nat_lt a b ≡ true → nat_lt c d ≡ true
wide a b c d low high h = let some : a < b = ltb-true a b h in lt-ltb c d (omega (arith, low, high, some))

mutual
  pub touches_more : (l : Layout) (ty : DataType) (T : Place → Bool) (s : Store) (a b c d : ℕ) → HasForm l ty → c ≤ a → b ≤ d → d ≤ rows_of l → list_any T (touched l s a b) ≡ true → list_any T (touched l s c d) ≡ true
  touches_more (node u rows (Leaf segments spelling) kids) ty T s a b c d form low high inside h = leaf_more T 0 (places_of u spelling segments) a b c d low high h
  touches_more (node u rows Struct kids) ty T s a b c d form low high inside h =
      if_more T T (nat_lt a b) (nat_lt c d) (all_touched kids (struct_steps u) s a b) (all_touched kids (struct_steps u) s c d) (wide a b c d low high)
      (λ _. all_more kids (child_types u Struct) (struct_steps u) T s rows a b c d form.3 form.2 low high inside) h
  touches_more (node u rows (List' q) kids) ty T s a b c d form low high inside h =
      let f : ℕ → Marked = λ i. nth_value kids 1 s i in
      let most : ℕ = nth_rows kids 0 in
      if_more T T (nat_lt a b) (nat_lt c d) (list_places kids rows s a b) (list_places kids rows s c d) (wide a b c d low high)
      (λ p. let some : a < b = ltb-true a b p in
      both_more T T (under_step to_validity (nth_touched kids 2 s a b)) (inner_places kids rows s a b) (under_step to_validity (nth_touched kids 2 s c d)) (inner_places kids rows s c d)
      (under_more T to_validity (nth_touched kids 2 s a b) (nth_touched kids 2 s c d)
      (nth_more kids (child_types u (List' q)) 2 (λ z. T (below_step to_validity z)) s a b c d form.3 (within_less kids 2 d rows inside (validity_within q rows kids form.2)) low high))
      (both_more T T (under_step to_offsets (nth_touched kids 1 s a (b + 1))) (under_step to_elements (element_places kids rows s a b)) (under_step to_offsets (nth_touched kids 1 s c (d + 1))) (under_step to_elements (element_places kids rows s c d))
      (under_more T to_offsets (nth_touched kids 1 s a (b + 1)) (nth_touched kids 1 s c (d + 1))
      (nth_more kids (child_types u (List' q)) 1 (λ z. T (below_step to_offsets z)) s a (b + 1) c (d + 1) form.3 (within_less kids 1 (d + 1) (rows + 1) (omega (arith, inside)) (offsets_within q rows kids form.2)) low (omega (arith, high))))
      (under_more T to_elements (element_places kids rows s a b) (element_places kids rows s c d)
      (nth_more kids (child_types u (List' q)) 0 (λ z. T (below_step to_elements z)) s (element_from most rows f a b) (element_to most rows f a b) (element_from most rows f c d) (element_to most rows f c d) form.3
      (within_rows kids 0 (element_to most rows f c d) (to_most most rows f c d)) (from_fewer most rows f a b c d some low high inside) (to_fewer most rows f a b c d some low high inside))))) h

  nth_more : (ls : Nodes) (ts : List DataType) (k : ℕ) (T : Place → Bool) (s : Store) (a b c d : ℕ) → HaveForms ls ts → Within ls k d → c ≤ a → b ≤ d → list_any T (nth_touched ls k s a b) ≡ true → list_any T (nth_touched ls k s c d) ≡ true
  nth_more no_nodes ts k T s a b c d forms w low high h = h
  nth_more (child l ls) [] k T s a b c d forms w low high h = absurd forms
  nth_more (child l ls) (ty ∷ ts) zero T s a b c d forms w low high h = touches_more l ty T s a b c d forms.0 low high w h
  nth_more (child l ls) (ty ∷ ts) (suc k) T s a b c d forms w low high h = nth_more ls ts k T s a b c d forms.1 w low high h

  all_more : (ls : Nodes) (ts : List DataType) (steps : List Step) (T : Place → Bool) (s : Store) (rows a b c d : ℕ) → HaveForms ls ts → AllHaveRows rows ls → c ≤ a → b ≤ d → d ≤ rows → list_any T (all_touched ls steps s a b) ≡ true → list_any T (all_touched ls steps s c d) ≡ true
  all_more no_nodes ts steps T s rows a b c d forms fits low high inside h = h
  all_more (child l ls) [] steps T s rows a b c d forms fits low high inside h = absurd forms
  all_more (child l ls) (ty ∷ ts) [] T s rows a b c d forms fits low high inside h =
      both_more T T (touched l s a b) (all_touched ls [] s a b) (touched l s c d) (all_touched ls [] s c d)
      (touches_more l ty T s a b c d forms.0 low high (let same = fits.0 in omega (arith, inside, same))) (all_more ls ts [] T s rows a b c d forms.1 fits.1 low high inside) h
  all_more (child l ls) (ty ∷ ts) (step ∷ steps) T s rows a b c d forms fits low high inside h =
      both_more T T (under_step step (touched l s a b)) (all_touched ls steps s a b) (under_step step (touched l s c d)) (all_touched ls steps s c d)
      (under_more T step (touched l s a b) (touched l s c d) (touches_more l ty (λ z. T (below_step step z)) s a b c d forms.0 low high (let same = fits.0 in omega (arith, inside, same))))
      (all_more ls ts steps T s rows a b c d forms.1 fits.1 low high inside) h
