-- The value of a row stands on the segments that the row touches, and on no others.
use Rattle.std.proofs.Common.{◌≡◌, ℕ, zero, suc, ◌+◌, ◌-◌, ◌<◌, ◌≤◌, min, max, List, [], ◌∷◌, ◌++◌, arith, refl, sym, ◌∙◌, ap, subst, Bool, false, true, Option, Some, None, inl, inr}
use Rattle.std.specs.Prelude.{option_and_then, nat_lt, nat_le, ◌==◌, ◌&&◌, if◌then◌else◌, ℤ, pos, negsuc}
use Rattle.std.proofs.lemmas.Bool.{eqb-true, eq-eqb, ltb-true, ltb-false, lt-ltb, leb-true}
use Rattle.std.proofs.lemmas.Bool.Decides.{eqb_tells}
use Rattle.scan_values.specs.declared.ptype.PType.{PType}
use Rattle.scan_values.specs.DataType.{DataType, nullability_of}
use Rattle.scan_values.specs.Marked.{Marked, gone, list, more}
use Rattle.scan_values.specs.Paths.{Step, to_validity, to_offsets, to_elements}
use Rattle.scan_segments.specs.Source.{Store}
use Rattle.scan_layout.specs.declared.node.LayoutKind.TheVariants.{Leaf, Struct, List as List'}
use Rattle.scan_layout.specs.Layout.{Layout, Nodes, node, no_nodes, child, rows_of}
use Rattle.scan_layout.specs.Check.{child_types}
use Rattle.scan_layout.specs.Form.{HasForm, HaveForms, RowsFit, AllHaveRows}
use Rattle.scan_layout.specs.Laws.{Each, Agree}
use Rattle.scan_layout.specs.RowValue.{row_value, nth_value, row_values, nth_rows, item_of, leaf_value, segment_value, offset_of, elements_between, values_from, struct_value, where_valid}
use Rattle.scan_spelling.specs.Places.{Place, places_of}
use Rattle.scan_layout.specs.Touched.{touched, below_step, nth_touched, all_touched, leaf_touched, under_step, struct_steps, least_offset, greatest_offset, lesser, greater, row_at, element_from, element_to}
use Rattle.scan_spelling.specs.Spelling.{decode}
use Rattle.scan_spelling.proofs.Fitting.{and_true}

pub agree_left : (P : Place → Type 0) (ps qs : List Place) → Each P (ps ++ qs) → Each P ps
agree_left P [] qs h = tt
agree_left P (p ∷ ps) qs h = (h.0, agree_left P ps qs h.1)

pub agree_right : (P : Place → Type 0) (ps qs : List Place) → Each P (ps ++ qs) → Each P qs
agree_right P [] qs h = h
agree_right P (p ∷ ps) qs h = agree_right P ps qs h.1

pub agree_both : (P : Place → Type 0) (ps qs : List Place) → Each P ps → Each P qs → Each P (ps ++ qs)
agree_both P [] qs h k = k
agree_both P (p ∷ ps) qs h k = (h.0, agree_both P ps qs h.1 k)

-- a fact that does not look at a place's path
abbrev pub IsBlind : (Place → Type 0) → Type 0
IsBlind P = (step : Step) (p : Place) → (P (below_step step p) → P p) × (P p → P (below_step step p))

pub agree_inside : (P : Place → Type 0) → IsBlind P → (step : Step) (ps : List Place) → Each P (under_step step ps) → Each P ps
agree_inside P blind step [] h = tt
agree_inside P blind step (p ∷ ps) h = ((blind step p).0 h.0, agree_inside P blind step ps h.1)

pub agree_outside : (P : Place → Type 0) → IsBlind P → (step : Step) (ps : List Place) → Each P ps → Each P (under_step step ps)
agree_outside P blind step [] h = tt
agree_outside P blind step (p ∷ ps) h = ((blind step p).1 h.0, agree_outside P blind step ps h.1)

pub agree_blind : (s u : Store) → IsBlind (Agree s u)
agree_blind s u step p = (λ h. h, λ h. h)

-- a leaf

pub leaf_here : (P : Place → Type 0) (base : ℕ) (p : Place) (places : List Place) (a b : ℕ) → max base a < min (base + p.rows) b → Each P (leaf_touched base (p ∷ places) a b) → P p
leaf_here P base p places a b h k =
    let hit : nat_lt (max base a) (min (base + p.rows) b) ≡ true = lt-ltb (max base a) (min (base + p.rows) b) h in
    (rw hit at k).0

pub leaf_later : (P : Place → Type 0) (base : ℕ) (p : Place) (places : List Place) (a b : ℕ) → Each P (leaf_touched base (p ∷ places) a b) → Each P (leaf_touched (base + p.rows) places a b)
leaf_later P base p places a b k = agree_right P (if nat_lt (max base a) (min (base + p.rows) b) then p ∷ [] else []) (leaf_touched (base + p.rows) places a b) k

-- two choices by one test are equal where their parts are
pub choose : {A : Type 0} (b : Bool) (x x' y y' : A) → (b ≡ true → x ≡ x') → (b ≡ false → y ≡ y') → (if b then x else y) ≡ (if b then x' else y')
choose true x x' y y' p q = p refl
choose false x x' y y' p q = q refl

-- a segment's value in two stores that have the same there
segment_local : (s t : Store) (p : Place) (i : ℕ) → Agree s t p → segment_value s p i ≡ segment_value t p i
segment_local s t p i h = ap (λ o. item_of p.dtype i (option_and_then (decode p.spelling p.dtype p.rows) o)) h

pub leaf_local : (ty : DataType) (s t : Store) (base : ℕ) (places : List Place) (i a b : ℕ) → a ≤ base + i → base + i < b → Each (Agree s t) (leaf_touched base places a b) → leaf_value ty s places i ≡ leaf_value ty t places i
leaf_local ty s t base [] i a b low high h = refl
leaf_local ty s t base (p ∷ places) i a b low high h =
    choose (nat_lt i p.rows) (segment_value s p i) (segment_value t p i) (leaf_value ty s places (i - p.rows)) (leaf_value ty t places (i - p.rows))
    (λ q. let below : i < p.rows = ltb-true i p.rows q in segment_local s t p i (leaf_here (Agree s t) base p places a b (omega arith) h))
    (λ q. let past : p.rows ≤ i = ltb-false i p.rows q in leaf_local ty s t (base + p.rows) places (i - p.rows) a b (omega arith) (omega arith) (leaf_later (Agree s t) base p places a b h))

-- what fewer rows touch is among what more rows touch
fewer_here : (P : Place → Type 0) (base : ℕ) (p : Place) (places : List Place) (a b c d : ℕ) → c ≤ a → b ≤ d → Each P (leaf_touched base (p ∷ places) c d) → (test : Bool) → nat_lt (max base a) (min (base + p.rows) b) ≡ test → Each P (if test then p ∷ [] else [])
fewer_here P base p places a b c d low high h true q = let inside : max base a < min (base + p.rows) b = ltb-true (max base a) (min (base + p.rows) b) q in (leaf_here P base p places c d (omega arith) h, tt)
fewer_here P base p places a b c d low high h false q = tt

pub leaf_fewer : (P : Place → Type 0) (base : ℕ) (places : List Place) (a b c d : ℕ) → c ≤ a → b ≤ d → Each P (leaf_touched base places c d) → Each P (leaf_touched base places a b)
leaf_fewer P base [] a b c d low high h = tt
leaf_fewer P base (p ∷ places) a b c d low high h =
    agree_both P (if nat_lt (max base a) (min (base + p.rows) b) then p ∷ [] else []) (leaf_touched (base + p.rows) places a b)
    (fewer_here P base p places a b c d low high h (nat_lt (max base a) (min (base + p.rows) b)) refl)
    (leaf_fewer P (base + p.rows) places a b c d low high (leaf_later P base p places c d h))

-- offsets

lesser_bounds : (o : Option ℤ) (m most : ℕ) → m ≤ most → lesser o m ≤ most
lesser_bounds None m most h = h
lesser_bounds (Some z) m most h = omega arith

pub least_most : (most : ℕ) (f : ℕ → Marked) (i n : ℕ) → least_offset most f i n ≤ most
least_most most f i zero = omega arith
least_most most f i (suc n) = lesser_bounds (offset_of (f i)) (least_offset most f (i + 1) n) most (least_most most f (i + 1) n)

lesser_first : (o : Option ℤ) (m : ℕ) (z : ℤ) → o ≡ Some z → lesser o m ≤ row_at z
lesser_first o m z e = rw e (omega arith)

lesser_rest : (o : Option ℤ) (m : ℕ) → lesser o m ≤ m
lesser_rest None m = omega arith
lesser_rest (Some z) m = omega arith

pub least_le : (most : ℕ) (f : ℕ → Marked) (i n k : ℕ) (z : ℤ) → i ≤ k → k < i + n → offset_of (f k) ≡ Some z → least_offset most f i n ≤ row_at z
least_le most f i zero k z low high e = absurd (omega arith)
least_le most f i (suc n) k z low high e =
    elim (eqb_tells i k) [
      | inl p ↦ lesser_first (offset_of (f i)) (least_offset most f (i + 1) n) z (subst (λ j. offset_of (f j) ≡ Some z) (sym p.1) e)
      | inr p ↦ let later : least_offset most f (i + 1) n ≤ row_at z = least_le most f (i + 1) n k z (omega arith) (omega arith) e in
          omega (arith, lesser_rest (offset_of (f i)) (least_offset most f (i + 1) n), later)
    ]

below_lesser : (o : Option ℤ) (x m : ℕ) → ((z : ℤ) → o ≡ Some z → x ≤ row_at z) → x ≤ m → x ≤ lesser o m
below_lesser None x m h k = k
below_lesser (Some z) x m h k = let here' : x ≤ row_at z = h z refl in omega arith

pub least_fewer : (most : ℕ) (f : ℕ → Marked) (c n a m : ℕ) → c ≤ a → a + m ≤ c + n → least_offset most f c n ≤ least_offset most f a m
least_fewer most f c n a zero low high = least_most most f c n
least_fewer most f c n a (suc m) low high =
    below_lesser (offset_of (f a)) (least_offset most f c n) (least_offset most f (a + 1) m)
    (λ z e. least_le most f c n a z low (omega arith) e)
    (least_fewer most f c n (a + 1) m (omega arith) (omega arith))

greater_first : (o : Option ℤ) (m : ℕ) (z : ℤ) → o ≡ Some z → row_at z ≤ greater o m
greater_first o m z e = rw e (omega arith)

greater_rest : (o : Option ℤ) (m : ℕ) → m ≤ greater o m
greater_rest None m = omega arith
greater_rest (Some z) m = omega arith

pub greatest_ge : (f : ℕ → Marked) (i n k : ℕ) (z : ℤ) → i ≤ k → k < i + n → offset_of (f k) ≡ Some z → row_at z ≤ greatest_offset f i n
greatest_ge f i zero k z low high e = absurd (omega arith)
greatest_ge f i (suc n) k z low high e =
    elim (eqb_tells i k) [
      | inl p ↦ greater_first (offset_of (f i)) (greatest_offset f (i + 1) n) z (subst (λ j. offset_of (f j) ≡ Some z) (sym p.1) e)
      | inr p ↦ let later : row_at z ≤ greatest_offset f (i + 1) n = greatest_ge f (i + 1) n k z (omega arith) (omega arith) e in
          omega (arith, greater_rest (offset_of (f i)) (greatest_offset f (i + 1) n), later)
    ]

greater_below : (o : Option ℤ) (x m : ℕ) → ((z : ℤ) → o ≡ Some z → row_at z ≤ x) → m ≤ x → greater o m ≤ x
greater_below None x m h k = k
greater_below (Some z) x m h k = let here' : row_at z ≤ x = h z refl in omega arith

pub greatest_fewer : (f : ℕ → Marked) (c n a m : ℕ) → c ≤ a → a + m ≤ c + n → greatest_offset f a m ≤ greatest_offset f c n
greatest_fewer f c n a zero low high = omega arith
greatest_fewer f c n a (suc m) low high =
    greater_below (offset_of (f a)) (greatest_offset f c n) (greatest_offset f (a + 1) m)
    (λ z e. greatest_ge f c n a z low (omega arith) e)
    (greatest_fewer f c n (a + 1) m (omega arith) (omega arith))

all_rows : (s e rows : ℕ) → ((s == 0) && (e == rows)) ≡ true → (s ≡ 0) × (e ≡ rows)
all_rows s e rows p =
    let both = and_true (s == 0) (e == rows) p in
    (eqb-true s 0 both.0, eqb-true e rows both.1)

not_all_rows : (s e rows : ℕ) → ((s == 0) && (e == rows)) ≡ false → s ≡ 0 → e ≡ rows → ⊥
not_all_rows s e rows p q r =
    let whole : ((s == 0) && (e == rows)) ≡ true = rw (q, eq-eqb e rows r) refl in
    absurd cc

pub from_by : (most x y : ℕ) (test : Bool) → (test ≡ false → y ≤ x) → (if test then 0 else y) ≤ x
from_by most x y true h = omega arith
from_by most x y false h = h refl

above_from : (x y : ℕ) (test : Bool) → (test ≡ true → x ≤ 0) → (test ≡ false → x ≤ y) → x ≤ (if test then 0 else y)
above_from x y true h k = h refl
above_from x y false h k = k refl

pub from_fewer : (most rows : ℕ) (f : ℕ → Marked) (a b c d : ℕ) → a < b → c ≤ a → b ≤ d → d ≤ rows → element_from most rows f c d ≤ element_from most rows f a b
from_fewer most rows f a b c d some low high inside =
    from_by most (element_from most rows f a b) (least_offset most f c (d + 1 - c)) ((c == 0) && (d == rows))
    (λ p. above_from (least_offset most f c (d + 1 - c)) (least_offset most f a (b + 1 - a)) ((a == 0) && (b == rows))
    (λ q. let whole = all_rows a b rows q in absurd (not_all_rows c d rows p (omega arith) (omega arith)))
    (λ _. least_fewer most f c (d + 1 - c) a (b + 1 - a) low (omega arith)))

pub to_by : (x y z : ℕ) (test : Bool) → (test ≡ true → x ≤ y) → (test ≡ false → x ≤ z) → x ≤ (if test then y else z)
to_by x y z true h k = h refl
to_by x y z false h k = k refl

under_to : (x y z : ℕ) (test : Bool) → (test ≡ true → y ≤ x) → (test ≡ false → z ≤ x) → (if test then y else z) ≤ x
under_to x y z true h k = h refl
under_to x y z false h k = k refl

pub to_most : (most rows : ℕ) (f : ℕ → Marked) (c d : ℕ) → element_to most rows f c d ≤ most
to_most most rows f c d = under_to most most (min most (greatest_offset f c (d + 1 - c))) ((c == 0) && (d == rows)) (λ _. omega arith) (λ _. omega arith)

pub to_fewer : (most rows : ℕ) (f : ℕ → Marked) (a b c d : ℕ) → a < b → c ≤ a → b ≤ d → d ≤ rows → element_to most rows f a b ≤ element_to most rows f c d
to_fewer most rows f a b c d some low high inside =
    to_by (element_to most rows f a b) most (min most (greatest_offset f c (d + 1 - c))) ((c == 0) && (d == rows))
    (λ _. to_most most rows f a b)
    (λ p. under_to (min most (greatest_offset f c (d + 1 - c))) most (min most (greatest_offset f a (b + 1 - a))) ((a == 0) && (b == rows))
    (λ q. let whole = all_rows a b rows q in absurd (not_all_rows c d rows p (omega arith) (omega arith)))
    (λ _. let fewer' : greatest_offset f a (b + 1 - a) ≤ greatest_offset f c (d + 1 - c) = greatest_fewer f c (d + 1 - c) a (b + 1 - a) low (omega arith) in omega arith))

-- the rows of a child, where there is one
abbrev pub Within : Nodes → ℕ → ℕ → Type 0
Within no_nodes k d = Unit {0}
Within (child l ls) zero d = d ≤ rows_of l
Within (child l ls) (suc k) d = Within ls k d

pub within_less : (ls : Nodes) (k c d : ℕ) → c ≤ d → Within ls k d → Within ls k c
within_less no_nodes k c d h w = tt
within_less (child l ls) zero c d h w = omega arith
within_less (child l ls) (suc k) c d h w = within_less ls k c d h w

pub within_rows : (ls : Nodes) (k d : ℕ) → d ≤ nth_rows ls k → Within ls k d
within_rows no_nodes k d h = tt
within_rows (child l ls) zero d h = h
within_rows (child l ls) (suc k) d h = within_rows ls k d h

pub offsets_within : (p : PType) (rows : ℕ) (kids : Nodes) → RowsFit (List' p) rows kids → Within kids 1 (rows + 1)
offsets_within p rows no_nodes h = tt
offsets_within p rows (child e no_nodes) h = tt
offsets_within p rows (child e (child o ls)) h = omega arith

pub validity_within : (p : PType) (rows : ℕ) (kids : Nodes) → RowsFit (List' p) rows kids → Within kids 2 rows
validity_within p rows no_nodes h = tt
validity_within p rows (child e no_nodes) h = tt
validity_within p rows (child e (child o no_nodes)) h = tt
validity_within p rows (child e (child o (child v ls))) h = omega arith

if_agree : (P : Place → Type 0) (test : Bool) (ps : List Place) → (test ≡ true → Each P ps) → Each P (if test then ps else [])
if_agree P true ps h = h refl
if_agree P false ps h = tt

pub agreed_if : (P : Place → Type 0) (test : Bool) (ps : List Place) → test ≡ true → Each P (if test then ps else []) → Each P ps
agreed_if P true ps e h = h
agreed_if P false ps e h = absurd cc

-- the parts of what a list touches
abbrev pub element_places : Nodes → ℕ → Store → ℕ → ℕ → List Place
element_places kids rows s a b = nth_touched kids 0 s (element_from (nth_rows kids 0) rows (λ i. nth_value kids 1 s i) a b) (element_to (nth_rows kids 0) rows (λ i. nth_value kids 1 s i) a b)

abbrev pub inner_places : Nodes → ℕ → Store → ℕ → ℕ → List Place
inner_places kids rows s a b = under_step to_offsets (nth_touched kids 1 s a (b + 1)) ++ under_step to_elements (element_places kids rows s a b)

abbrev pub list_places : Nodes → ℕ → Store → ℕ → ℕ → List Place
list_places kids rows s a b = under_step to_validity (nth_touched kids 2 s a b) ++ inner_places kids rows s a b

mutual
  pub fewer : (l : Layout) (ty : DataType) (P : Place → Type 0) (blind : IsBlind P) (s : Store) (a b c d : ℕ) → HasForm l ty → c ≤ a → b ≤ d → d ≤ rows_of l → Each P (touched l s c d) → Each P (touched l s a b)
  fewer (node u rows (Leaf segments spelling) kids) ty P blind s a b c d form low high inside h = leaf_fewer P 0 (places_of u spelling segments) a b c d low high h
  fewer (node u rows Struct kids) ty P blind s a b c d form low high inside h =
      if_agree P (nat_lt a b) (all_touched kids (struct_steps u) s a b)
      (λ p. let some : a < b = ltb-true a b p in
      all_fewer kids (child_types u Struct) (struct_steps u) P blind s rows a b c d form.3 form.2 low high inside
      (agreed_if P (nat_lt c d) (all_touched kids (struct_steps u) s c d) (lt-ltb c d (omega arith)) h))
  fewer (node u rows (List' q) kids) ty P blind s a b c d form low high inside h =
      if_agree P (nat_lt a b) (list_places kids rows s a b)
      (λ p. let some : a < b = ltb-true a b p in
      let more = agreed_if P (nat_lt c d) (list_places kids rows s c d) (lt-ltb c d (omega arith)) h in
      let others = agree_right P (under_step to_validity (nth_touched kids 2 s c d)) (inner_places kids rows s c d) more in
      let f : ℕ → Marked = λ i. nth_value kids 1 s i in
      let most : ℕ = nth_rows kids 0 in
      agree_both P (under_step to_validity (nth_touched kids 2 s a b)) (inner_places kids rows s a b)
      (agree_outside P blind to_validity (nth_touched kids 2 s a b)
      (nth_fewer kids (child_types u (List' q)) 2 P blind s a b c d form.3 (within_less kids 2 d rows inside (validity_within q rows kids form.2)) low high
      (agree_inside P blind to_validity (nth_touched kids 2 s c d) (agree_left P (under_step to_validity (nth_touched kids 2 s c d)) (inner_places kids rows s c d) more))))
      (agree_both P (under_step to_offsets (nth_touched kids 1 s a (b + 1))) (under_step to_elements (element_places kids rows s a b))
      (agree_outside P blind to_offsets (nth_touched kids 1 s a (b + 1))
      (nth_fewer kids (child_types u (List' q)) 1 P blind s a (b + 1) c (d + 1) form.3 (within_less kids 1 (d + 1) (rows + 1) (omega arith) (offsets_within q rows kids form.2)) low (omega arith)
      (agree_inside P blind to_offsets (nth_touched kids 1 s c (d + 1)) (agree_left P (under_step to_offsets (nth_touched kids 1 s c (d + 1))) (under_step to_elements (element_places kids rows s c d)) others))))
      (agree_outside P blind to_elements (element_places kids rows s a b)
      (nth_fewer kids (child_types u (List' q)) 0 P blind s (element_from most rows f a b) (element_to most rows f a b) (element_from most rows f c d) (element_to most rows f c d) form.3
      (within_rows kids 0 (element_to most rows f c d) (to_most most rows f c d))
      (from_fewer most rows f a b c d some low high inside) (to_fewer most rows f a b c d some low high inside)
      (agree_inside P blind to_elements (element_places kids rows s c d) (agree_right P (under_step to_offsets (nth_touched kids 1 s c (d + 1))) (under_step to_elements (element_places kids rows s c d)) others))))))

  pub nth_fewer : (ls : Nodes) (ts : List DataType) (k : ℕ) (P : Place → Type 0) (blind : IsBlind P) (s : Store) (a b c d : ℕ) → HaveForms ls ts → Within ls k d → c ≤ a → b ≤ d → Each P (nth_touched ls k s c d) → Each P (nth_touched ls k s a b)
  nth_fewer no_nodes ts k P blind s a b c d forms w low high h = tt
  nth_fewer (child l ls) [] k P blind s a b c d forms w low high h = absurd forms
  nth_fewer (child l ls) (ty ∷ ts) zero P blind s a b c d forms w low high h = fewer l ty P blind s a b c d forms.0 low high w h
  nth_fewer (child l ls) (ty ∷ ts) (suc k) P blind s a b c d forms w low high h = nth_fewer ls ts k P blind s a b c d forms.1 w low high h

  pub all_fewer : (ls : Nodes) (ts : List DataType) (steps : List Step) (P : Place → Type 0) (blind : IsBlind P) (s : Store) (rows a b c d : ℕ) → HaveForms ls ts → AllHaveRows rows ls → c ≤ a → b ≤ d → d ≤ rows → Each P (all_touched ls steps s c d) → Each P (all_touched ls steps s a b)
  all_fewer no_nodes ts steps P blind s rows a b c d forms fits low high inside h = tt
  all_fewer (child l ls) [] steps P blind s rows a b c d forms fits low high inside h = absurd forms
  all_fewer (child l ls) (ty ∷ ts) [] P blind s rows a b c d forms fits low high inside h =
      agree_both P (touched l s a b) (all_touched ls [] s a b)
      (fewer l ty P blind s a b c d forms.0 low high (omega arith) (agree_left P (touched l s c d) (all_touched ls [] s c d) h))
      (all_fewer ls ts [] P blind s rows a b c d forms.1 fits.1 low high inside (agree_right P (touched l s c d) (all_touched ls [] s c d) h))
  all_fewer (child l ls) (ty ∷ ts) (step ∷ steps) P blind s rows a b c d forms fits low high inside h =
      agree_both P (under_step step (touched l s a b)) (all_touched ls steps s a b)
      (agree_outside P blind step (touched l s a b) (fewer l ty P blind s a b c d forms.0 low high (omega arith) (agree_inside P blind step (touched l s c d) (agree_left P (under_step step (touched l s c d)) (all_touched ls steps s c d) h))))
      (all_fewer ls ts steps P blind s rows a b c d forms.1 fits.1 low high inside (agree_right P (under_step step (touched l s c d)) (all_touched ls steps s c d) h))

pub marks_same : (f g : ℕ → Marked) (i n : ℕ) → ((j : ℕ) → i ≤ j → j < i + n → f j ≡ g j) → values_from f i n ≡ values_from g i n
marks_same f g i zero h = refl
marks_same f g i (suc n) h = λ r. more (h i (omega arith) (omega arith) r) (marks_same f g (i + 1) n (λ j low high. h j (omega arith) (omega arith)) r)

content_same : (x y most : ℕ) (f g : ℕ → Marked) (test : Bool) → (nat_le x y && nat_le y most) ≡ test → (x ≤ y → y ≤ most → (j : ℕ) → x ≤ j → j < y → f j ≡ g j) →
    (if test then list (values_from f x (y - x)) else gone) ≡ (if test then list (values_from g x (y - x)) else gone)
content_same x y most f g true p h =
    let both = and_true (nat_le x y) (nat_le y most) p in
    let ordered : x ≤ y = leb-true x y both.0 in
    let within : y ≤ most = leb-true y most both.1 in
    ap list (marks_same f g x (y - x) (λ j low high. h ordered within j low (omega arith)))
content_same x y most f g false p h = refl

pub elements_same : (most : ℕ) (o p : Option ℤ) (f g : ℕ → Marked) → ((x y : ℕ) → o ≡ Some (pos x) → p ≡ Some (pos y) → x ≤ y → y ≤ most → (j : ℕ) → x ≤ j → j < y → f j ≡ g j) →
    elements_between most o p f ≡ elements_between most o p g
elements_same most (Some (pos x)) (Some (pos y)) f g h = content_same x y most f g (nat_le x y && nat_le y most) refl (λ u v j low high. h x y refl refl u v j low high)
elements_same most None p f g h = refl
elements_same most (Some (negsuc x)) p f g h = refl
elements_same most (Some (pos x)) None f g h = refl
elements_same most (Some (pos x)) (Some (negsuc y)) f g h = refl

mutual
  pub local : (l : Layout) (ty : DataType) (s t : Store) (a b i : ℕ) → HasForm l ty → a ≤ i → i < b → b ≤ rows_of l → Each (Agree s t) (touched l s a b) → row_value l s i ≡ row_value l t i
  local (node u rows (Leaf segments spelling) kids) ty s t a b i form low high inside h = leaf_local u s t 0 (places_of u spelling segments) i a b (omega arith) (omega arith) h
  local (node u rows Struct kids) ty s t a b i form low high inside h =
      ap (struct_value (nullability_of u)) (all_local kids (child_types u Struct) (struct_steps u) s t rows a b i form.3 form.2 low high inside
      (agreed_if (Agree s t) (nat_lt a b) (all_touched kids (struct_steps u) s a b) (lt-ltb a b (omega arith)) h))
  local (node u rows (List' q) kids) ty s t a b i form low high inside h =
      let f : ℕ → Marked = λ k. nth_value kids 1 s k in
      let most : ℕ = nth_rows kids 0 in
      let from : ℕ = element_from most rows f i (i + 1) in
      let to : ℕ = element_to most rows f i (i + 1) in
      let narrow : Each (Agree s t) (touched (node u rows (List' q) kids) s i (i + 1)) = fewer (node u rows (List' q) kids) ty (Agree s t) (agree_blind s t) s i (i + 1) a b form low (omega arith) inside h in
      let more = agreed_if (Agree s t) (nat_lt i (i + 1)) (list_places kids rows s i (i + 1)) (lt-ltb i (i + 1) (omega arith)) narrow in
      let others = agree_right (Agree s t) (under_step to_validity (nth_touched kids 2 s i (i + 1))) (inner_places kids rows s i (i + 1)) more in
      let in_offsets = agree_inside (Agree s t) (agree_blind s t) to_offsets (nth_touched kids 1 s i (i + 1 + 1)) (agree_left (Agree s t) (under_step to_offsets (nth_touched kids 1 s i (i + 1 + 1))) (under_step to_elements (element_places kids rows s i (i + 1))) others) in
      let in_elements = agree_inside (Agree s t) (agree_blind s t) to_elements (element_places kids rows s i (i + 1)) (agree_right (Agree s t) (under_step to_offsets (nth_touched kids 1 s i (i + 1 + 1))) (under_step to_elements (element_places kids rows s i (i + 1))) others) in
      let valid : nth_value kids 2 s i ≡ nth_value kids 2 t i =
      nth_local kids (child_types u (List' q)) 2 s t i (i + 1) i form.3 (within_less kids 2 (i + 1) rows (omega arith) (validity_within q rows kids form.2)) (omega arith) (omega arith)
      (agree_inside (Agree s t) (agree_blind s t) to_validity (nth_touched kids 2 s i (i + 1)) (agree_left (Agree s t) (under_step to_validity (nth_touched kids 2 s i (i + 1))) (inner_places kids rows s i (i + 1)) more)) in
      let in_rows = within_less kids 1 (i + 1 + 1) (rows + 1) (omega arith) (offsets_within q rows kids form.2) in
      let first : nth_value kids 1 s i ≡ nth_value kids 1 t i = nth_local kids (child_types u (List' q)) 1 s t i (i + 1 + 1) i form.3 in_rows (omega arith) (omega arith) in_offsets in
      let last : nth_value kids 1 s (i + 1) ≡ nth_value kids 1 t (i + 1) = nth_local kids (child_types u (List' q)) 1 s t i (i + 1 + 1) (i + 1) form.3 in_rows (omega arith) (omega arith) in_offsets in
      let content : elements_between most (offset_of (nth_value kids 1 s i)) (offset_of (nth_value kids 1 s (i + 1))) (λ j. nth_value kids 0 s j)
      ≡ elements_between most (offset_of (nth_value kids 1 s i)) (offset_of (nth_value kids 1 s (i + 1))) (λ j. nth_value kids 0 t j) =
      elements_same most (offset_of (nth_value kids 1 s i)) (offset_of (nth_value kids 1 s (i + 1))) (λ j. nth_value kids 0 s j) (λ j. nth_value kids 0 t j)
      (λ x y px py ordered within j above below.
      let starts : from ≤ x = from_by most x (least_offset most f i (i + 1 + 1 - i)) ((i == 0) && (i + 1 == rows)) (λ _. least_le most f i (i + 1 + 1 - i) i (pos x) (omega arith) (omega arith) px) in
      let ends : y ≤ to = to_by y most (min most (greatest_offset f i (i + 1 + 1 - i))) ((i == 0) && (i + 1 == rows)) (λ _. within)
      (λ _. let up : y ≤ greatest_offset f i (i + 1 + 1 - i) = greatest_ge f i (i + 1 + 1 - i) (i + 1) (pos y) (omega arith) (omega arith) py in omega arith) in
      nth_local kids (child_types u (List' q)) 0 s t from to j form.3 (within_rows kids 0 to (to_most most rows f i (i + 1))) (omega arith) (omega arith) in_elements) in
      λ r. where_valid (nullability_of u) (valid r) ((content ∙ (λ v. elements_between most (offset_of (first v)) (offset_of (last v)) (λ j. nth_value kids 0 t j))) r)

  pub nth_local : (ls : Nodes) (ts : List DataType) (k : ℕ) (s t : Store) (a b i : ℕ) → HaveForms ls ts → Within ls k b → a ≤ i → i < b → Each (Agree s t) (nth_touched ls k s a b) → nth_value ls k s i ≡ nth_value ls k t i
  nth_local no_nodes ts k s t a b i forms w low high h = refl
  nth_local (child l ls) [] k s t a b i forms w low high h = absurd forms
  nth_local (child l ls) (ty ∷ ts) zero s t a b i forms w low high h = local l ty s t a b i forms.0 low high w h
  nth_local (child l ls) (ty ∷ ts) (suc k) s t a b i forms w low high h = nth_local ls ts k s t a b i forms.1 w low high h

  pub all_local : (ls : Nodes) (ts : List DataType) (steps : List Step) (s t : Store) (rows a b i : ℕ) → HaveForms ls ts → AllHaveRows rows ls → a ≤ i → i < b → b ≤ rows → Each (Agree s t) (all_touched ls steps s a b) → row_values ls s i ≡ row_values ls t i
  all_local no_nodes ts steps s t rows a b i forms fits low high inside h = refl
  all_local (child l ls) [] steps s t rows a b i forms fits low high inside h = absurd forms
  all_local (child l ls) (ty ∷ ts) [] s t rows a b i forms fits low high inside h =
      λ r. more (local l ty s t a b i forms.0 low high (omega arith) (agree_left (Agree s t) (touched l s a b) (all_touched ls [] s a b) h) r)
      (all_local ls ts [] s t rows a b i forms.1 fits.1 low high inside (agree_right (Agree s t) (touched l s a b) (all_touched ls [] s a b) h) r)
  all_local (child l ls) (ty ∷ ts) (step ∷ steps) s t rows a b i forms fits low high inside h =
      λ r. more (local l ty s t a b i forms.0 low high (omega arith) (agree_inside (Agree s t) (agree_blind s t) step (touched l s a b) (agree_left (Agree s t) (under_step step (touched l s a b)) (all_touched ls steps s a b) h)) r)
      (all_local ls ts steps s t rows a b i forms.1 fits.1 low high inside (agree_right (Agree s t) (under_step step (touched l s a b)) (all_touched ls steps s a b) h) r)
