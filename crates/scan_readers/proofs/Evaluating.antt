-- What filters and projections of a plan mean, by the reader's rows.
use Rattle.std.proofs.Common.{◌≡◌, ℕ, ◌==◌, ◌+◌, ◌<◌, ◌≤◌, Bool, true, false, ◌||◌, ◌&&◌, List, [], ◌∷◌, ◌++◌, length, Result, Ok, Err, refl, ap, sym, subst, ◌∙◌, arith}
use Rattle.std.specs.Prelude.{if◌then◌else◌, IfOk}
use Rattle.std.specs.List.{list_any}
use Rattle.std.proofs.lemmas.List.Folds.{list_any-append}
use Rattle.scan_values.specs.Marked.{is_true}
use Rattle.scan_values.specs.Masks.{both_true}
use Rattle.scan_segments.specs.Source.{Store}
use Rattle.scan_spelling.specs.Places.{Place}
use Rattle.scan_expr.specs.Bound.{Bound}
use Rattle.scan_plans.specs.PlanTree.{PlanTree, evaluate, numbers}
use Rattle.scan_plans.specs.PlanData.{PlanData}
use Rattle.scan_plans.specs.Came.{Came, arrived}
use Rattle.scan_plans.specs.Futures.{future_data}
use Rattle.scan_plans.specs.Masks.{MaskData, mask_data, Filter, kept, filtered, spilled, filters_wanted, filters_spoiled, mask_of, mask_overflow, mask_wanted, mask_spoiled}
use Rattle.scan_plans.specs.Meaning.{value_at, overflow_at, overflow_on, true_rows, Within}
use Rattle.scan_plans.specs.Wants.{wanted, are_here, names_id, spoiled}
use Rattle.scan_plans.specs.Pruning.{are_numbers, is_numbered, pruned, IsWithin}
use Rattle.scan_plans.proofs.Filtering.{kept_length}
use Rattle.scan_plans.proofs.ListWants.{within_fewer}
use Rattle.scan_plans.proofs.Pruned.{pruned_wants, pruned_keeps, pruned_alike}
use Rattle.scan_plans.proofs.RowLemmas.{map_rows}
use Rattle.scan_readers.specs.Readers.{ReaderState, numbers_alone, value_of, overflows_at}
use Rattle.scan_readers.specs.PlanOf.{IsPlanOf, may_want, may_spoil}
use Rattle.scan_readers.specs.Evaluations.{rows_true, overflows_on, Filters, Projects, Prunes}

or_assoc : (a b c : Bool) → (a || (b || c)) ≡ ((a || b) || c)
or_assoc true b c = refl
or_assoc false b c = refl

or_false : (b : Bool) → (b || false) ≡ b
or_false true = refl
or_false false = refl

or_more : (a b : Bool) → b ≡ true → (a || b) ≡ true
or_more true b h = refl
or_more false b h = h

-- ---- masks after filters
filtered_length : (store : Store) (bits : List Bool) (fs : List Filter) → length (filtered store bits fs) ≡ length bits
filtered_length store bits [] = refl
filtered_length store bits (f ∷ fs) = filtered_length store (kept f.0 store f.1 bits) fs ∙ kept_length f.0 store f.1 bits

filtered_last : (store : Store) (bits : List Bool) (fs : List Filter) (f : Filter) → filtered store bits (fs ++ f ∷ []) ≡ kept f.0 store f.1 (filtered store bits fs)
filtered_last store bits [] f = refl
filtered_last store bits (g ∷ fs) f = filtered_last store (kept g.0 store g.1 bits) fs f

spilled_last : (store : Store) (bits : List Bool) (fs : List Filter) (f : Filter) → spilled store bits (fs ++ f ∷ []) ≡ (spilled store bits fs || overflow_on f.0 store (true_rows f.1 (filtered store bits fs)))
spilled_last store bits [] f = or_false (overflow_on f.0 store (true_rows f.1 bits))
spilled_last store bits (g ∷ fs) f =
    ap (λ b. overflow_on g.0 store (true_rows g.1 bits) || b) (spilled_last store (kept g.0 store g.1 bits) fs f)
    ∙ or_assoc (overflow_on g.0 store (true_rows g.1 bits)) (spilled store (kept g.0 store g.1 bits) fs) (overflow_on f.0 store (true_rows f.1 (filtered store (kept g.0 store g.1 bits) fs)))

-- ---- by the values of a reader's rows
module _ (s : ReaderState) (e : Bound) (p : PlanTree) (store : Store) where
  rows_kept : ((i : ℕ) → i < s.rows → value_at p store i ≡ value_of s e store i) → (first : ℕ) (bits : List Bool) → first + length bits ≤ s.rows → kept p store first bits ≡ rows_true s e store first bits
  rows_kept h first [] w = refl
  rows_kept h first (b ∷ bits) w =
      let here : value_at p store first ≡ value_of s e store first = h first (omega (arith, w)) in
      rw here (ap (λ bs. (b && is_true (value_of s e store first)) ∷ bs) (rows_kept h (first + 1) bits (omega (arith, w))))

any_rows : (f g : ℕ → Bool) (first : ℕ) (bits : List Bool) → ((i : ℕ) → first ≤ i → i < first + length bits → f i ≡ g i) → list_any f (true_rows first bits) ≡ list_any g (true_rows first bits)
any_rows f g first [] h = refl
any_rows f g first (b ∷ bits) h = by b (any_rows f g (first + 1) bits (λ i low high. h i (omega (arith, low)) (omega (arith, high))))
  where
    by : (b : Bool) → list_any f (true_rows (first + 1) bits) ≡ list_any g (true_rows (first + 1) bits) → list_any f (true_rows first (b ∷ bits)) ≡ list_any g (true_rows first (b ∷ bits))
    by true rest = let here : f first ≡ g first = h first (omega arith) (omega arith) in rw (here, rest) refl
    by false rest = rest

-- ---- what is wanted
names_append : (id : ℕ) (ps qs : List Place) → names_id id (ps ++ qs) ≡ (names_id id ps || names_id id qs)
names_append id ps qs = list_any-append (λ (p : Place). p.id == id) ps qs

either : (a b c : Bool) → (a || b) ≡ true → (a ≡ true → c ≡ true) → (b ≡ true → c ≡ true) → c ≡ true
either true b c h f g = f refl
either false b c h f g = g h

of_first : (a b c : Bool) → a ≡ true → ((a || b) || c) ≡ true
of_first true b c h = refl
of_first false b c h = absurd cc

of_rest : (a b c : Bool) → (b || c) ≡ true → ((a || b) || c) ≡ true
of_rest true b c h = refl
of_rest false b c h = h

-- of two stages the second wants nothing unless all of the first is here
second : (id : ℕ) (ws : List Place) (b : Bool) (rest : List Place) → names_id id (ws ++ (if b then rest else [])) ≡ true → (c : Bool) → (names_id id ws ≡ true → c ≡ true) → (b ≡ true → names_id id rest ≡ true → c ≡ true) → c ≡ true
second id ws true rest h c f g = either (names_id id ws) (names_id id rest) c (sym (names_append id ws rest) ∙ h) f (g refl)
second id ws false rest h c f g = either (names_id id ws) false c (sym (names_append id ws []) ∙ h) f (λ z. absurd cc)

staged : (id : ℕ) (ws : List Place) (b : Bool) (rest : List Place) → b ≡ true → names_id id (ws ++ (if b then rest else [])) ≡ (names_id id ws || names_id id rest)
staged id ws b rest h = rw h (names_append id ws rest)

last_wants : (here : Came) (id : ℕ) (t : Bool) (f : Filter) (n : ℕ) (bits : List Bool) (fs : List Filter) → ((m : List Bool) → length m ≡ n → names_id id (wanted f.0 here (true_rows f.1 m)) ≡ true → t ≡ true)
    → length bits ≡ n → names_id id (filters_wanted here bits (fs ++ f ∷ [])) ≡ true → (names_id id (filters_wanted here bits fs) || t) ≡ true
last_wants here id t f n bits [] want l h =
    second id (wanted f.0 here (true_rows f.1 bits)) (are_here (wanted f.0 here (true_rows f.1 bits)) here) [] h t (want bits l) (λ a z. absurd cc)
last_wants here id t f n bits (g ∷ fs) want l h =
    let ws = wanted g.0 here (true_rows g.1 bits) in
    let next = kept g.0 (arrived here) g.1 bits in
    let b = are_here ws here in
    second id ws b (filters_wanted here next (fs ++ f ∷ [])) h (names_id id (ws ++ (if b then filters_wanted here next fs else [])) || t)
    (λ w. ap (λ x. x || t) (names_append id ws (if b then filters_wanted here next fs else [])) ∙ of_first (names_id id ws) (names_id id (if b then filters_wanted here next fs else [])) t w)
    (λ a w. ap (λ x. x || t) (staged id ws b (filters_wanted here next fs) a) ∙ of_rest (names_id id ws) (names_id id (filters_wanted here next fs)) t (last_wants here id t f n next fs want (kept_length g.0 (arrived here) g.1 bits ∙ l) w))

-- ---- what is no good
-- of two stages the second is not looked at unless all of the first is here
second_bad : (a b rest c : Bool) → (a || (if b then rest else false)) ≡ true → (a ≡ true → c ≡ true) → (b ≡ true → rest ≡ true → c ≡ true) → c ≡ true
second_bad a true rest c h f g = either a rest c h f (g refl)
second_bad a false rest c h f g = either a false c h f (λ z. absurd cc)

last_spoils : (here : Came) (id : ℕ) (t : Bool) (f : Filter) (n : ℕ) (bits : List Bool) (fs : List Filter) → ((m : List Bool) → length m ≡ n → spoiled f.0 here (true_rows f.1 m) id ≡ true → t ≡ true)
    → length bits ≡ n → filters_spoiled here bits (fs ++ f ∷ []) id ≡ true → (filters_spoiled here bits fs id || t) ≡ true
last_spoils here id t f n bits [] bad l h =
    second_bad (spoiled f.0 here (true_rows f.1 bits) id) (are_here (wanted f.0 here (true_rows f.1 bits)) here) false t h (bad bits l) (λ a z. absurd cc)
last_spoils here id t f n bits (g ∷ fs) bad l h =
    let one = spoiled g.0 here (true_rows g.1 bits) id in
    let next = kept g.0 (arrived here) g.1 bits in
    let b = are_here (wanted g.0 here (true_rows g.1 bits)) here in
    let rest = filters_spoiled here next fs id in
    second_bad one b (filters_spoiled here next (fs ++ f ∷ []) id) ((one || (if b then rest else false)) || t) h
    (of_first one (if b then rest else false) t)
    (λ a w. rw a (of_rest one rest t (last_spoils here id t f n next fs bad (kept_length g.0 (arrived here) g.1 bits ∙ l) w)))

-- over the numbers of rows nothing is no good
numbers_spoil : (p : PlanTree) → are_numbers p ≡ true → (here : Came) (is : List ℕ) (id : ℕ) → spoiled p here is id ≡ false
numbers_spoil (numbers k) h here is id = refl
numbers_spoil _ h here is id = absurd cc

pub numbered_spoils : (p : PlanTree) → is_numbered p ≡ true → (here : Came) (is : List ℕ) (id : ℕ) → spoiled p here is id ≡ false
numbered_spoils (evaluate d e p) h here is id = numbers_spoil p h here is id
numbered_spoils _ h here is id = absurd cc

pruned_spoils : (p : PlanTree) (first : ℕ) (mask : List Bool) (here : Came) (id : ℕ) → mask_spoiled (pruned p first mask) here id ≡ false
pruned_spoils p first mask here id = by (is_numbered p) refl
  where
    none : (c : Bool) → (if c then false else false) ≡ false
    none true = refl
    none false = refl

    by : (b : Bool) → is_numbered p ≡ b → filters_spoiled here mask (if b then (p, first) ∷ [] else []) id ≡ false
    by true h = rw (numbered_spoils p h here (true_rows first mask) id) (none (are_here (wanted p here (true_rows first mask)) here))
    by false h = refl

-- ---- a filter and a projection
pub filter_means : (s : ReaderState) (p : PlanData) (first end : ℕ) (m : MaskData) → IsPlanOf s p.expr p → end ≤ s.rows → first + length m.known ≡ end → Filters s p.expr first m (mask_data m.known (m.filters ++ (p.tree, first) ∷ []))
filter_means s p first end m is below l = record {
  size = refl;
  mask = λ store. filtered_last store m.known m.filters (p.tree, first) ∙ rows_kept s p.expr p.tree store (is.value store) first (mask_of m store) (within store);
  overflow = λ store. spilled_last store m.known m.filters (p.tree, first) ∙ ap (λ b. mask_overflow m store || b) (any_rows (overflow_at p.tree store) (overflows_at s p.expr store) first (mask_of m store) (λ i low high. is.overflow store i (under store i high)));
  wants = λ store here id holds w. last_wants here id (may_want s p.expr store first (first + length m.known) id) (p.tree, first)
      (length m.known) m.known m.filters (λ bits same h. subst (λ n. may_want s p.expr store first (first + n) id ≡ true) same
      (is.wants store here first bits id holds (omega (arith, same, below, l)) h)) refl w;
  spoils = λ store here id holds w. last_spoils here id (may_spoil s p.expr store first (first + length m.known) id) (p.tree, first)
      (length m.known) m.known m.filters (λ bits same h. subst (λ n. may_spoil s p.expr store first (first + n) id ≡ true) same
      (is.spoils store here first bits id holds (omega (arith, same, below, l)) h)) refl w;
}
  where
    within : (store : Store) → first + length (mask_of m store) ≤ s.rows
    within store = let k = filtered_length store m.known m.filters in omega (arith, k, below, l)

    under : (store : Store) (i : ℕ) → i < first + length (mask_of m store) → i < s.rows
    under store i high = let k = within store in omega (arith, k, high)

pub projection_means : (s : ReaderState) (p : PlanData) (first end : ℕ) (m : MaskData) → IsPlanOf s p.expr p → end ≤ s.rows → first + length m.known ≡ end → Projects s p.expr first m (future_data p first m)
projection_means s p first end m is below l = record {
  dtype = is.dtype;
  items = λ store. map_rows (value_at p.tree store) (value_of s p.expr store) first (mask_of m store) (λ i low high. is.value store i (under store i high));
  overflow = λ store. ap (λ b. b || overflow_on p.tree store (true_rows first (mask_of m store))) (or_false (mask_overflow m store))
      ∙ ap (λ b. mask_overflow m store || b) (any_rows (overflow_at p.tree store) (overflows_at s p.expr store) first (mask_of m store)
      (λ i low high. is.overflow store i (under store i high)));
  wants = λ store here id holds w.
      let t = may_want s p.expr store first (first + length m.known) id in
      let ws = mask_wanted m here in
      let rows = true_rows first (mask_of m (arrived here)) in
      second id ws (are_here ws here) (wanted p.tree here rows) w (names_id id ws || t) (λ h. of_left (names_id id ws) t h)
      (λ a h. or_more (names_id id ws) t (let same = filtered_length (arrived here) m.known m.filters in subst (λ n. may_want s p.expr store first (first + n) id ≡ true) same (is.wants store here first (mask_of m (arrived here)) id holds (within (arrived here)) h)));
  spoils = λ store here id holds w.
      let t = may_spoil s p.expr store first (first + length m.known) id in
      let bad = mask_spoiled m here id in
      second_bad bad (are_here (mask_wanted m here) here) (spoiled p.tree here (true_rows first (mask_of m (arrived here))) id) (bad || t) w (λ h. of_left bad t h)
      (λ a h. or_more bad t (let same = filtered_length (arrived here) m.known m.filters in subst (λ n. may_spoil s p.expr store first (first + n) id ≡ true) same (is.spoils store here first (mask_of m (arrived here)) id holds (within (arrived here)) h)));
}
  where
    within : (store : Store) → first + length (mask_of m store) ≤ s.rows
    within store = let k = filtered_length store m.known m.filters in omega (arith, k, below, l)

    under : (store : Store) (i : ℕ) → i < first + length (mask_of m store) → i < s.rows
    under store i high = let k = within store in omega (arith, k, high)

    of_left : (a b : Bool) → a ≡ true → (a || b) ≡ true
    of_left true b h = refl
    of_left false b h = absurd cc

-- ---- a prune
both_length : (bits cs : List Bool) → length (both_true bits cs) ≤ length bits
both_length [] cs = omega arith
both_length (b ∷ bits) [] = omega arith
both_length (b ∷ bits) (c ∷ cs) = let k = both_length bits cs in omega (arith, k)

and_same : (b t : Bool) → ((b && t) && t) ≡ (b && t)
and_same true true = refl
and_same true false = refl
and_same false t = refl

rows_again : (s : ReaderState) (e : Bound) (store : Store) (k : ℕ) (bits : List Bool) → rows_true s e store k (rows_true s e store k bits) ≡ rows_true s e store k bits
rows_again s e store k [] = refl
rows_again s e store k (b ∷ bits) = rw (and_same b (is_true (value_of s e store k))) (ap (λ bs. (b && is_true (value_of s e store k)) ∷ bs) (rows_again s e store (k + 1) bits))

pub prune_means : (s : ReaderState) (p : PlanData) (first end : ℕ) (mask : List Bool) → IsPlanOf s p.expr p → end ≤ s.rows → first + length mask ≡ end → Prunes s p.expr first mask (pruned p.tree first mask)
prune_means s p first end mask is below l = record {
  size = refl;
  mask = λ store. left_by store (is_numbered p.tree) (numbers_alone s p.expr.expr) is.numbered;
  drops = λ store. subst (λ (bs : List Bool). IsWithin bs (mask_of (pruned p.tree first mask) store)) (here store mask (omega arith)) (pruned_keeps p.tree first mask store);
  alike = λ store. sym (here store (both_true mask (mask_of (pruned p.tree first mask) store)) (both_length mask (mask_of (pruned p.tree first mask) store))) ∙ pruned_alike p.tree first mask store ∙ here store mask (omega arith);
  again = λ alone store.
      let left = left_by store (is_numbered p.tree) true (is.numbered ∙ alone) in
      ap (rows_true s p.expr store first) left ∙ rows_again s p.expr store first mask ∙ sym left;
  overflow = λ store. spilled_by store (is_numbered p.tree) (numbers_alone s p.expr.expr) is.numbered;
  wants = pruned_wants p.tree first mask;
  spoils = pruned_spoils p.tree first mask;
}
  where
    here : (store : Store) (bits : List Bool) → length bits ≤ length mask → kept p.tree store first bits ≡ rows_true s p.expr store first bits
    here store bits less = rows_kept s p.expr p.tree store (is.value store) first bits (omega (arith, less, below, l))

    left_by : (store : Store) (a b : Bool) → a ≡ b → filtered store mask (if a then (p.tree, first) ∷ [] else []) ≡ (if b then rows_true s p.expr store first mask else mask)
    left_by store true true h = here store mask (omega arith)
    left_by store true false h = absurd cc
    left_by store false true h = absurd cc
    left_by store false false h = refl

    spilled_by : (store : Store) (a b : Bool) → a ≡ b → spilled store mask (if a then (p.tree, first) ∷ [] else []) ≡ (b && overflows_on s p.expr store first mask)
    spilled_by store true true h = or_false (overflow_on p.tree store (true_rows first mask)) ∙ any_rows (overflow_at p.tree store) (overflows_at s p.expr store) first mask (λ i low high. is.overflow store i (omega (arith, high, below, l)))
    spilled_by store true false h = absurd cc
    spilled_by store false true h = absurd cc
    spilled_by store false false h = refl

-- ---- what a call gives
pub given_means : {A E : Type 0} (P : A → Type 0) (x : A) (r : Result A E) → P x → IfOk r (λ y. y ≡ x) → IfOk r P
given_means P x (Ok y) p h = subst P (sym h) p
given_means P x (Err e) p h = tt

pub fewer_rows : (p : PlanTree) (m n : ℕ) → m ≤ n → Within p n → Within p m
fewer_rows p m n h w = within_fewer p n m h w
