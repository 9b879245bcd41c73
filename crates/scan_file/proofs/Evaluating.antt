-- The rows of a split of a file, and where one overflows.
use Rattle.std.proofs.Common.{◌≡◌, ◌≤◌, ◌+◌, ◌-◌, ◌&&◌, ◌||◌, ℕ, Bool, true, false, List, [], ◌∷◌, length, map, filter, refl, sym, ap, ◌∙◌, arith}
use Rattle.std.specs.Prelude.{not, zip, if◌then◌else◌}
use Rattle.std.specs.List.{list_any, list_all}
use Rattle.std.specs.declared.ops.Range.{Range}
use Rattle.std.proofs.lemmas.List.Folds.{list_any-append}
use Rattle.scan_values.specs.Marked.{is_true}
use Rattle.scan_values.specs.Selections.{row_mask, selects}
use Rattle.scan_values.specs.Val.{is_clean}
use Rattle.scan_segments.specs.Source.{Store}
use Rattle.scan_expr.specs.Bound.{Bound}
use Rattle.scan_expr.specs.Eval.{eval}
use Rattle.scan_expr.specs.Overflow.{overflows}
use Rattle.scan_layout.specs.Layout.{Layout, rows_of as layout_rows}
use Rattle.scan_layout.specs.RowValue.{row_value}
use Rattle.scan_plans.specs.Futures.{future_damage, future_dtype, future_overflow, items_of, rows_of}
use Rattle.scan_plans.specs.Meaning.{true_rows}
use Rattle.scan_readers.specs.Evaluations.{rows_true, overflows_on}
use Rattle.scan_readers.specs.Readers.{ReaderState, numbers_alone, value_of}
use Rattle.scan_readers.specs.Readers as readers
use Rattle.scan_streams.specs.Plans.{PlansData}
use Rattle.scan_core.specs.Given as given
use Rattle.scan_core.specs.Given.{Rises}
use Rattle.scan_core.specs.RowRanges.{IsRange, narrowed}
use Rattle.scan_core.specs.SplitMeaning.{IsScanOf, IsSplitOf, in_turn, passed, passing_damage, passing_overflows}
use Rattle.scan_core.proofs.Executing.{mask_reaches}
use Rattle.scan_core.proofs.Giving.{mask_rows, rows_kept, rows_passed}
use Rattle.scan_core.proofs.Picking.{narrowed_within}
use Rattle.scan_core.proofs.Reading.{narrowed_rows}
use Rattle.scan_core.proofs.Splitting.{filters_pass, split_means}
use Rattle.scan_core.proofs.Turns.{turn_passes}
use Rattle.scan_core.proofs.Written.{in_turn_as_written}
use Rattle.scan_file.specs.FileAsks.{FileAsk, ask_conjuncts, given_dtype}
use Rattle.scan_file.specs.FileRows.{unless_lost}
use Rattle.scan_file.specs.FileScans.{range_future}
use Rattle.scan_file.specs.FileSplits.{split_state}
use Rattle.scan_file.specs.Parts.{ask_turn, file_rows, is_damaged, overflows_at, overflows_in, passes, picks, row_of, rows_given, spills, split_rows}

-- ---- lists
zip_map : {A B : Type 0} (g : A → B) (f : ℕ → A) (is : List ℕ) → zip is (map g (map f is)) ≡ map (λ i. (i, g (f i))) is
zip_map g f [] = refl
zip_map g f (i ∷ is) = ap (λ xs. (i, g (f i)) ∷ xs) (zip_map g f is)

or_left : (a b : Bool) → a ≡ true → (a || b) ≡ true
or_left true b e = refl
or_left false b e = absurd cc

or_right : (a b : Bool) → b ≡ true → (a || b) ≡ true
or_right true b e = refl
or_right false b e = e

or_either : (a b c : Bool) → (a || b) ≡ true → (a ≡ true → c ≡ true) → (b ≡ true → c ≡ true) → c ≡ true
or_either true b c e f g = f refl
or_either false b c e f g = g e

-- a test holds at one of some numbers that pass where at one of them both hold
any_kept : (p q : ℕ → Bool) (is : List ℕ) → list_any q (filter p is) ≡ list_any (λ i. p i && q i) is
any_kept p q [] = refl
any_kept p q (i ∷ is) = go (p i) (any_kept p q is)
  where
    go : (b : Bool) → list_any q (filter p is) ≡ list_any (λ j. p j && q j) is → list_any q (if b then i ∷ filter p is else filter p is) ≡ ((b && q i) || list_any (λ j. p j && q j) is)
    go true e = ap (λ x. q i || x) e
    go false e = e

or_true : (b : Bool) → (b || true) ≡ true
or_true true = refl
or_true false = refl

or_swap : (a b c d : Bool) → ((a || b) || (c || d)) ≡ ((a || c) || (b || d))
or_swap true b c d = refl
or_swap false true c d = sym (or_true c)
or_swap false false c d = refl

-- one of two tests holds at one of some numbers
any_or : (p q : ℕ → Bool) (is : List ℕ) → (list_any p is || list_any q is) ≡ list_any (λ i. p i || q i) is
any_or p q [] = refl
any_or p q (i ∷ is) = or_swap (p i) (list_any p is) (q i) (list_any q is) ∙ ap (λ b. (p i || q i) || b) (any_or p q is)

any_never : (is : List ℕ) → list_any (λ (i : ℕ). false) is ≡ false
any_never [] = refl
any_never (i ∷ is) = any_never is

any_less : (p q : ℕ → Bool) (is : List ℕ) → list_any q (filter p is) ≡ true → list_any q is ≡ true
any_less p q [] h = h
any_less p q (i ∷ is) h = go (p i) (any_less p q is) h
  where
    go : (b : Bool) → (list_any q (filter p is) ≡ true → list_any q is ≡ true) → list_any q (if b then i ∷ filter p is else filter p is) ≡ true → (q i || list_any q is) ≡ true
    go true rest k = or_either (q i) (list_any q (filter p is)) (q i || list_any q is) k (or_left (q i) (list_any q is)) (λ m. or_right (q i) (list_any q is) (rest m))
    go false rest k = or_right (q i) (list_any q is) (rest k)

any_more : {A : Type 0} (q r : A → Bool) (xs : List A) → ((x : A) → q x ≡ true → r x ≡ true) → list_any q xs ≡ true → list_any r xs ≡ true
any_more q r [] f h = h
any_more q r (x ∷ xs) f h = or_either (q x) (list_any q xs) (r x || list_any r xs) h (λ k. or_left (r x) (list_any r xs) (f x k)) (λ k. or_right (r x) (list_any r xs) (any_more q r xs f k))

any_among : {A : Type 0} (p q : A → Bool) (xs : List A) → list_any q (filter p xs) ≡ true → list_any q xs ≡ true
any_among p q [] h = h
any_among p q (x ∷ xs) h = go (p x) (any_among p q xs) h
  where
    go : (b : Bool) → (list_any q (filter p xs) ≡ true → list_any q xs ≡ true) → list_any q (if b then x ∷ filter p xs else filter p xs) ≡ true → (q x || list_any q xs) ≡ true
    go true rest k = or_either (q x) (list_any q (filter p xs)) (q x || list_any q xs) k (or_left (q x) (list_any q xs)) (λ m. or_right (q x) (list_any q xs) (rest m))
    go false rest k = or_right (q x) (list_any q xs) (rest k)

turn_among : (s : ReaderState) (cs : List Bound) (q : Bound → Bool) → list_any q (in_turn s cs) ≡ true → list_any q cs ≡ true
turn_among s cs q h =
    let first = filter (λ (c : Bound). numbers_alone s c.expr) cs in
    let others = filter (λ (c : Bound). not (numbers_alone s c.expr)) cs in
    or_either (list_any q first) (list_any q others) (list_any q cs) (sym (list_any-append q first others) ∙ h)
    (any_among (λ (c : Bound). numbers_alone s c.expr) q cs) (any_among (λ (c : Bound). not (numbers_alone s c.expr)) q cs)

-- ---- rows that are numbered from 0
from_zero : (i : ℕ) → 0 + i ≡ i
from_zero i = omega arith

module _ (a : FileAsk) (l : Layout) (store : Store) where
  value_is : (e : Bound) (i : ℕ) → value_of (file_rows l) e store i ≡ row_of a l store e i
  value_is e i = ap (λ n. eval e.scope e.expr (row_value l store i) n) (from_zero i)

  spill_is : (e : Bound) (i : ℕ) → readers.overflows_at (file_rows l) e store i ≡ overflows_in a l store e i
  spill_is e i = ap (λ n. overflows e.scope e.expr (row_value l store i) n) (from_zero i)

  values_are : (is : List ℕ) → map (λ i. (i, (given_dtype a, value_of (file_rows l) a.projection store i))) (filter (given.passes (file_rows l) (ask_conjuncts a) store) is) ≡ rows_given a l store is
  values_are is = λ k. map (λ i. (i, (given_dtype a, value_is a.projection i k))) (filter (λ i. list_all (λ c. is_true (value_is c i k)) (ask_conjuncts a)) is)

  -- ---- damage
  -- conjuncts in turn are damaged where one is at a row at which all before it are true
  pub damage_rows : (cs : List Bound) (first : ℕ) (bits : List Bool) → passing_damage (file_rows l) cs store first bits ≡ list_any (is_damaged a l store cs) (true_rows first bits)
  damage_rows [] first bits = sym (any_never (true_rows first bits))
  damage_rows (c ∷ cs) first bits =
      let s = file_rows l in
      let is = true_rows first bits in
      let here : ℕ → Bool = λ i. not (is_clean (value_of s c store i)) in
      let true_in : ℕ → Bool = λ i. is_true (value_of s c store i) in
      let later : ℕ → Bool = is_damaged a l store cs in
      ap (λ b. list_any here is || b) (damage_rows cs first (rows_true s c store first bits) ∙ ap (list_any later) (rows_kept s store c first bits) ∙ any_kept true_in later is)
      ∙ any_or here (λ i. true_in i && later i) is
      ∙ (λ k. list_any (λ i. not (is_clean (value_is c i k)) || (is_true (value_is c i k) && later i)) is)

  -- conjuncts in turn, and then an expression, overflow where one of them does at a row at which all before it are true
  or_last : (b c d : Bool) → ((b || c) || d) ≡ (b || (c || d))
  or_last true c d = refl
  or_last false c d = refl

  pub spill_rows : (cs : List Bound) (first : ℕ) (bits : List Bool)
      → (passing_overflows (file_rows l) cs store first bits || overflows_on (file_rows l) a.projection store first (passed (file_rows l) cs store first bits)) ≡ list_any (spills a l store cs) (true_rows first bits)
  spill_rows [] first bits = λ k. list_any (λ i. spill_is a.projection i k) (true_rows first bits)
  spill_rows (c ∷ cs) first bits =
      let s = file_rows l in
      let is = true_rows first bits in
      let next = rows_true s c store first bits in
      let here : ℕ → Bool = readers.overflows_at s c store in
      let true_in : ℕ → Bool = λ i. is_true (value_of s c store i) in
      let later : ℕ → Bool = spills a l store cs in
      or_last (list_any here is) (passing_overflows s cs store first next) (overflows_on s a.projection store first (passed s cs store first next))
      ∙ ap (λ b. list_any here is || b) (spill_rows cs first next ∙ ap (list_any later) (rows_kept s store c first bits) ∙ any_kept true_in later is)
      ∙ any_or here (λ i. true_in i && later i) is
      ∙ (λ k. list_any (λ i. spill_is c i k || (is_true (value_is c i k) && later i)) is)

  -- ---- an overflow
  -- a conjunct overflows at one of some rows
  conjunct_over : (cs : List Bound) (first : ℕ) (bits : List Bool) → passing_overflows (file_rows l) cs store first bits ≡ true → list_any (λ i. list_any (λ c. overflows_in a l store c i) cs) (true_rows first bits) ≡ true
  conjunct_over [] first bits h = absurd cc
  conjunct_over (c ∷ cs) first bits h =
      let s = file_rows l in
      let is = true_rows first bits in
      or_either (overflows_on s c store first bits) (passing_overflows s cs store first (rows_true s c store first bits)) (list_any (λ i. overflows_in a l store c i || list_any (λ d. overflows_in a l store d i) cs) is) h
      (λ k. any_more (readers.overflows_at s c store) (λ i. overflows_in a l store c i || list_any (λ d. overflows_in a l store d i) cs) is (λ i m. or_left (overflows_in a l store c i) (list_any (λ d. overflows_in a l store d i) cs) (sym (spill_is c i) ∙ m)) k)
      (λ k. any_more (λ i. list_any (λ d. overflows_in a l store d i) cs) (λ i. overflows_in a l store c i || list_any (λ d. overflows_in a l store d i) cs) is (λ i m. or_right (overflows_in a l store c i) (list_any (λ d. overflows_in a l store d i) cs) m)
      (any_less (λ i. is_true (value_of s c store i)) (λ i. list_any (λ d. overflows_in a l store d i) cs) is (sym (ap (list_any (λ i. list_any (λ d. overflows_in a l store d i) cs)) (rows_kept s store c first bits)) ∙ conjunct_over cs first (rows_true s c store first bits) k)))

-- ---- a split
module _ (a : FileAsk) (l : Layout) (p : PlansData) (means : IsScanOf (file_rows l) (ask_turn a l) a.projection p) (rises : Rises a.selection) (r : Range ℕ) (within : IsRange (layout_rows l) r) where
  abbrev pub picked : Range ℕ
  picked = narrowed a.selection r

  abbrev pub mask : List Bool
  mask = row_mask a.selection picked

  picked_within : IsRange (layout_rows l) picked
  picked_within = narrowed_within (layout_rows l) a.selection r rises within

  pub mask_ends : picked.start + length mask ≡ picked.end
  mask_ends = mask_reaches (layout_rows l) a.selection picked mask refl picked_within

  pub mask_within : picked.start + length mask ≤ layout_rows l
  mask_within = let e = mask_ends in let w = picked_within.1 in omega (arith, e, w)

  -- the rows of its mask
  mask_picks : true_rows picked.start mask ≡ picks a l r
  mask_picks = mask_rows (selects a.selection) picked.start (picked.end - picked.start) ∙ narrowed_rows a.selection r rises

  rows_are : (store : Store) → rows_of (range_future a p r) store ≡ filter (given.passes (file_rows l) (ask_conjuncts a) store) (picks a l r)
  rows_are store =
      let s = file_rows l in
      let cs = ask_conjuncts a in
      ap (true_rows picked.start) (filters_pass s (in_turn s cs) p.conjuncts store picked.start mask means.conjuncts mask_within ∙ turn_passes s cs store picked.start mask)
      ∙ rows_passed s store cs picked.start mask
      ∙ ap (filter (given.passes s cs store)) mask_picks

  items_are : (store : Store) → items_of (range_future a p r) store ≡ map (value_of (file_rows l) a.projection store) (filter (given.passes (file_rows l) (ask_conjuncts a) store) (picks a l r))
  items_are store =
      let s = file_rows l in
      let cs = ask_conjuncts a in
      (in_turn_as_written s cs a.projection p picked.start mask means mask_within).items store
      ∙ ap (map (value_of s a.projection store)) (rows_passed s store cs picked.start mask ∙ ap (filter (given.passes s cs store)) mask_picks)

  means_split : IsSplitOf (file_rows l) (ask_turn a l) a.projection picked.start mask (range_future a p r)
  means_split = split_means (file_rows l) (ask_turn a l) a.projection p picked.start mask means mask_within

  gives_rows : (store : Store) → zip (rows_of (range_future a p r) store) (map (λ m. (future_dtype (range_future a p r), m)) (items_of (range_future a p r) store)) ≡ rows_given a l store (picks a l r)
  gives_rows store =
      let s = file_rows l in
      let is = filter (given.passes s (ask_conjuncts a) store) (picks a l r) in
      (λ k. zip (rows_are store k) (map (λ m. (means_split.dtype k, m)) (items_are store k))) ∙ zip_map (λ m. (given_dtype a, m)) (value_of s a.projection store) is ∙ values_are a l store (picks a l r)

  damages_there : (store : Store) → future_damage (range_future a p r) store ≡ list_any (is_damaged a l store (ask_turn a l)) (picks a l r)
  damages_there store =
      means_split.damage store ∙ damage_rows a l store (ask_turn a l) picked.start mask ∙ ap (list_any (is_damaged a l store (ask_turn a l))) mask_picks

  spills_there : (store : Store) → future_overflow (range_future a p r) store ≡ list_any (spills a l store (ask_turn a l)) (picks a l r)
  spills_there store =
      means_split.overflow store ∙ spill_rows a l store (ask_turn a l) picked.start mask ∙ ap (list_any (spills a l store (ask_turn a l))) mask_picks

  pub gives_split : (store : Store) → (split_state (range_future a p r)).rows store ≡ split_rows a l store (picks a l r)
  gives_split store = λ k. unless_lost (damages_there store k || spills_there store k) (means_split.dtype k) (gives_rows store k)

  pub overflows_there : (store : Store) → future_overflow (range_future a p r) store ≡ true → list_any (overflows_at a l store) (picks a l r) ≡ true
  overflows_there store h =
      let s = file_rows l in
      let cs = ask_conjuncts a in
      let conjunct : ℕ → Bool = λ i. list_any (λ c. overflows_in a l store c i) cs in
      let last : ℕ → Bool = λ i. passes a l store i && overflows_in a l store a.projection i in
      let all : ℕ → Bool = λ i. conjunct i || last i in
      let is = picks a l r in
      or_either (passing_overflows s (in_turn s cs) store picked.start mask) (overflows_on s a.projection store picked.start (passed s (in_turn s cs) store picked.start mask)) (list_any all is)
      (sym (means_split.overflow store) ∙ h)
      (λ k. any_more conjunct all is (λ i m. or_left (conjunct i) (last i) m)
      (any_more (λ i. list_any (λ c. overflows_in a l store c i) (in_turn s cs)) conjunct is (λ i m. turn_among s cs (λ c. overflows_in a l store c i) m)
      (sym (ap (list_any (λ i. list_any (λ c. overflows_in a l store c i) (in_turn s cs))) mask_picks) ∙ conjunct_over a l store (in_turn s cs) picked.start mask k)))
      (λ k. any_more last all is (λ i m. or_right (conjunct i) (last i) m)
      (sym (any_kept (passes a l store) (overflows_in a l store a.projection) is) ∙ sym (last_is store) ∙ k))
    where
      last_is : (store : Store) → overflows_on (file_rows l) a.projection store picked.start (passed (file_rows l) (in_turn (file_rows l) (ask_conjuncts a)) store picked.start mask) ≡ list_any (overflows_in a l store a.projection) (filter (passes a l store) (picks a l r))
      last_is store =
          let s = file_rows l in
          let cs = ask_conjuncts a in
          ap (λ bits. list_any (readers.overflows_at s a.projection store) (true_rows picked.start bits)) (turn_passes s cs store picked.start mask)
          ∙ ap (list_any (readers.overflows_at s a.projection store)) (rows_passed s store cs picked.start mask ∙ ap (filter (given.passes s cs store)) mask_picks)
          ∙ (λ k. list_any (λ i. spill_is a l store a.projection i k) (filter (λ i. list_all (λ c. is_true (value_is a l store c i k)) cs) (picks a l r)))
