-- What the plans of a scan give at the rows of a mask.
use Rattle.std.proofs.Common.{◌≡◌, ℕ, suc, ◌==◌, ◌+◌, ◌<◌, ◌≤◌, Bool, true, false, ◌||◌, ◌&&◌, List, [], ◌∷◌, ◌++◌, map, length, Option, Some, None, is_none, refl, ap, sym, subst, ◌∙◌, arith}
use Rattle.std.specs.Prelude.{if◌then◌else◌, not, is_some}
use Rattle.std.proofs.lemmas.Bool.{eqb-true}
use Rattle.std.proofs.lemmas.List.Folds.{list_any-append}
use Rattle.std.specs.List.{list_any}
use Rattle.scan_values.specs.Marked.{Marked, is_true}
use Rattle.scan_values.specs.Masks.{by_rank}
use Rattle.scan_values.specs.Val.{is_clean}
use Rattle.scan_segments.specs.Source.{Store}
use Rattle.scan_spelling.specs.Places.{Place, places_of}
use Rattle.scan_expr.specs.Bound.{Bound}
use Rattle.scan_plans.specs.Came.{Came, arrived, Holds}
use Rattle.scan_plans.specs.Masks.{Filter, mask_data, kept, filtered, damaged, spilled, filters_wanted, filters_spoiled}
use Rattle.scan_plans.specs.Meaning.{value_at, damage_at, damage_on, overflow_on, true_rows}
use Rattle.scan_plans.specs.OffsetsData.{OffsetsData, offset_places}
use Rattle.scan_plans.specs.PlanData.{PlanData}
use Rattle.scan_plans.specs.PlanTree.{PlanTree, leaf, rows, evaluate, over, constant, lists, lengths, valid, numbers, by_lengths, PlanTrees, no_plans, plan}
use Rattle.scan_plans.specs.Wants.{leaf_wanted, offsets_wanted, wanted, all_wanted, names_id, are_here, knows_elements, Complete, spoils, offsets_spoiled, spoiled, any_spoiled}
use Rattle.scan_plans.proofs.Building.{no_rows}
use Rattle.scan_plans.proofs.Filtering.{kept_by}
use Rattle.scan_plans.proofs.LeafWalk.{no_rows_wanted}
use Rattle.scan_plans.proofs.Pruned.{numbered_wants}
use Rattle.scan_plans.proofs.Transfer.{items_same}
use Rattle.scan_readers.specs.Evaluations.{rows_true, overflows_on, Filters, Projects}
use Rattle.scan_readers.specs.PlanOf.{IsPlanOf, may_want, may_spoil}
use Rattle.scan_readers.specs.Readers.{ReaderState, numbers_alone, value_of}
use Rattle.scan_readers.proofs.Evaluating.{filter_means, numbered_spoils, projection_means}
use Rattle.scan_streams.specs.Plans.{PlansData, filters_from, split_data}
use Rattle.scan_core.specs.SplitMeaning.{damages_on, passed, passing_damage, passing_overflows, has_true, rows_may_want, split_may_want, rows_may_spoil, split_may_spoil, ArePlansOf, IsScanOf, IsSplitOf}

-- ---- no row wants nothing
both_none : (xs ys : List Place) → xs ≡ [] → ys ≡ [] → xs ++ ys ≡ []
both_none xs ys h k = rw (h, k) refl

none_if : (b : Bool) (ps : List Place) → ps ≡ [] → (if b then ps else []) ≡ []
none_if true ps h = h
none_if false ps h = refl

mutual
  none_wanted : (p : PlanTree) (here : Came) → wanted p here [] ≡ []
  none_wanted (leaf d s gs) here = no_rows_wanted 0 (places_of d s gs)
  none_wanted (rows d vs) here = refl
  none_wanted (evaluate d e p) here = none_wanted p here
  none_wanted (over d e ps) here = none_in ps here
  none_wanted (constant d e) here = refl
  none_wanted (lists d p o) here =
      let b = knows_elements o here [] in
      both_none (offsets_wanted o []) (if b then wanted p here [] else []) (no_rows_wanted 0 (offset_places o)) (none_if b (wanted p here []) (none_wanted p here))
  none_wanted (lengths o) here = no_rows_wanted 0 (offset_places o)
  none_wanted (valid p v) here = both_none (wanted v here []) (wanted p here []) (none_wanted v here) (none_wanted p here)
  none_wanted (numbers k) here = refl
  none_wanted (by_lengths d e t f p) here = none_wanted p here

  none_in : (ps : PlanTrees) (here : Came) → all_wanted ps here [] ≡ []
  none_in no_plans here = refl
  none_in (plan p ps) here = both_none (wanted p here []) (all_wanted ps here []) (none_wanted p here) (none_in ps here)

-- ---- what has arrived
and_left : (x y : Bool) → (x && y) ≡ true → x ≡ true
and_left true y e = refl
and_left false y e = e

and_right : (x y : Bool) → (x && y) ≡ true → y ≡ true
and_right true y e = e
and_right false y e = absurd cc

some_none : (o : Option (Option (List ℕ))) → is_some o ≡ true → is_none o ≡ false
some_none None e = absurd cc
some_none (Some x) e = refl

one_here : (p : Place) (here : Came) (id : ℕ) (b c d : Bool) → (p.id == id) ≡ b → is_some (here p.id) ≡ true → (c && d) ≡ false → is_none (here id) ≡ d → ((b || c) && d) ≡ false
one_here p here id true c d e s r w = sym w ∙ some_none (here id) (subst (λ (n : ℕ). is_some (here n) ≡ true) (eqb-true p.id id e) s)
one_here p here id false c d e s r w = r

pub here_complete : (ps : List Place) (here : Came) → are_here ps here ≡ true → Complete ps here
here_complete [] here h = λ id. refl
here_complete (p ∷ ps) here h = λ id. one_here p here id (p.id == id) (names_id id ps) (is_none (here id)) refl (and_left (is_some (here p.id)) (are_here ps here) h) (here_complete ps here (and_right (is_some (here p.id)) (are_here ps here) h) id) refl

here_append : (ps qs : List Place) (here : Came) → are_here ps here ≡ true → are_here (ps ++ qs) here ≡ are_here qs here
here_append [] qs here h = refl
here_append (p ∷ ps) qs here h = rw (and_left (is_some (here p.id)) (are_here ps here) h) (here_append ps qs here (and_right (is_some (here p.id)) (are_here ps here) h))

-- ---- a conjunct
or_false : (b : Bool) → (b || false) ≡ b
or_false true = refl
or_false false = refl

conjunct_means : (s : ReaderState) (c : Bound) (p : PlanData) (first : ℕ) (bits : List Bool) → IsPlanOf s c p → first + length bits ≤ s.rows → Filters s c first (mask_data bits []) (mask_data bits ((p.tree, first) ∷ []))
conjunct_means s c p first bits is w =
    let own : IsPlanOf s p.expr p = subst (λ (x : Bound). IsPlanOf s x p) (sym is.expr) is in
    subst (λ (x : Bound). Filters s x first (mask_data bits []) (mask_data bits ((p.tree, first) ∷ []))) is.expr (filter_means s p first (first + length bits) (mask_data bits []) own w refl)

kept_is : (s : ReaderState) (c : Bound) (p : PlanData) (store : Store) (first : ℕ) (bits : List Bool) → IsPlanOf s c p → first + length bits ≤ s.rows → kept p.tree store first bits ≡ rows_true s c store first bits
kept_is s c p store first bits is w = (conjunct_means s c p first bits is w).mask store

spilled_is : (s : ReaderState) (c : Bound) (p : PlanData) (store : Store) (first : ℕ) (bits : List Bool) → IsPlanOf s c p → first + length bits ≤ s.rows → overflow_on p.tree store (true_rows first bits) ≡ overflows_on s c store first bits
spilled_is s c p store first bits is w = sym (or_false (overflow_on p.tree store (true_rows first bits))) ∙ (conjunct_means s c p first bits is w).overflow store

damaged_is : (s : ReaderState) (c : Bound) (p : PlanData) (store : Store) (first : ℕ) (bits : List Bool) → IsPlanOf s c p → first + length bits ≤ s.rows → damage_on p.tree store (true_rows first bits) ≡ damages_on s c store first bits
damaged_is s c p store first bits is w = any_rows first bits (λ i h. ap (λ v. not (is_clean v)) (is.value store i (omega (arith, h, w))))
  where
    own : ℕ → Bool
    own i = not (is_clean (value_of s c store i))

    any_rows : (k : ℕ) (bs : List Bool) → ((i : ℕ) → i < k + length bs → damage_at p.tree store i ≡ own i) → list_any (damage_at p.tree store) (true_rows k bs) ≡ list_any own (true_rows k bs)
    any_rows k [] h = refl
    any_rows k (true ∷ bs) h = rw (h k (omega arith), any_rows (k + 1) bs (λ i l. h i (omega (arith, l)))) refl
    any_rows k (false ∷ bs) h = any_rows (k + 1) bs (λ i l. h i (omega (arith, l)))

kept_same : (p : PlanTree) (k : ℕ) (here : Came) (store : Store) (bits : List Bool) → Holds store here → Complete (wanted p here (true_rows k bits)) here → kept p store k bits ≡ kept p (arrived here) k bits
kept_same p k here store bits h c = kept_by p store k bits ∙ ap (λ (vs : List Marked). by_rank bits (map is_true vs)) (items_same p here store (true_rows k bits) h c) ∙ sym (kept_by p (arrived here) k bits)

pub rows_length : (s : ReaderState) (e : Bound) (store : Store) (k : ℕ) (bits : List Bool) → length (rows_true s e store k bits) ≡ length bits
rows_length s e store k [] = refl
rows_length s e store k (b ∷ bits) = ap suc (rows_length s e store (k + 1) bits)

-- ---- what filters leave, where they overflow, and where they are damaged
next_within : (s : ReaderState) (c : Bound) (store : Store) (first : ℕ) (bits : List Bool) → first + length bits ≤ s.rows → first + length (rows_true s c store first bits) ≤ s.rows
next_within s c store first bits w = let same = rows_length s c store first bits in omega (arith, same, w)

pub filters_pass : (s : ReaderState) (cs : List Bound) (ps : List PlanData) (store : Store) (first : ℕ) (bits : List Bool) → ArePlansOf s cs ps → first + length bits ≤ s.rows → filtered store bits (filters_from first ps) ≡ passed s cs store first bits
filters_pass s [] [] store first bits a w = refl
filters_pass s [] (p ∷ ps) store first bits a w = absurd a
filters_pass s (c ∷ cs) [] store first bits a w = absurd a
filters_pass s (c ∷ cs) (p ∷ ps) store first bits a w =
    ap (λ bs. filtered store bs (filters_from first ps)) (kept_is s c p store first bits a.0.0 w)
    ∙ filters_pass s cs ps store first (rows_true s c store first bits) a.1 (next_within s c store first bits w)

filters_spill : (s : ReaderState) (cs : List Bound) (ps : List PlanData) (store : Store) (first : ℕ) (bits : List Bool) → ArePlansOf s cs ps → first + length bits ≤ s.rows → spilled store bits (filters_from first ps) ≡ passing_overflows s cs store first bits
filters_spill s [] [] store first bits a w = refl
filters_spill s [] (p ∷ ps) store first bits a w = absurd a
filters_spill s (c ∷ cs) [] store first bits a w = absurd a
filters_spill s (c ∷ cs) (p ∷ ps) store first bits a w =
    rw (spilled_is s c p store first bits a.0.0 w, kept_is s c p store first bits a.0.0 w)
    (ap (λ b. overflows_on s c store first bits || b) (filters_spill s cs ps store first (rows_true s c store first bits) a.1 (next_within s c store first bits w)))

filters_damaged : (s : ReaderState) (cs : List Bound) (ps : List PlanData) (store : Store) (first : ℕ) (bits : List Bool) → ArePlansOf s cs ps → first + length bits ≤ s.rows → damaged store bits (filters_from first ps) ≡ passing_damage s cs store first bits
filters_damaged s [] [] store first bits a w = refl
filters_damaged s [] (p ∷ ps) store first bits a w = absurd a
filters_damaged s (c ∷ cs) [] store first bits a w = absurd a
filters_damaged s (c ∷ cs) (p ∷ ps) store first bits a w =
    rw (damaged_is s c p store first bits a.0.0 w, kept_is s c p store first bits a.0.0 w)
    (ap (λ b. damages_on s c store first bits || b) (filters_damaged s cs ps store first (rows_true s c store first bits) a.1 (next_within s c store first bits w)))

-- ---- what is wanted
none_named : (id : ℕ) (ps : List Place) (b : Bool) → ps ≡ [] → names_id id ps ≡ true → b ≡ true
none_named id ps b e h = absurd (let z : false ≡ true = subst (λ (qs : List Place). names_id id qs ≡ true) e h in cc)

rows_want : (s : ReaderState) (c : Bound) (p : PlanData) (store : Store) (here : Came) (first : ℕ) (bits : List Bool) (id : ℕ) → IsPlanOf s c p
    → Holds store here → first + length bits ≤ s.rows → names_id id (wanted p.tree here (true_rows first bits)) ≡ true
    → rows_may_want s c store first bits id ≡ true
rows_want s c p store here first bits id is holds w h = by (has_true bits) (numbers_alone s c.expr) refl refl
  where
    m : Bool
    m = may_want s c store first (first + length bits) id

    by : (b n : Bool) → has_true bits ≡ b → numbers_alone s c.expr ≡ n → (b && (not n && m)) ≡ true
    by false n e k = none_named id (wanted p.tree here (true_rows first bits)) false (ap (wanted p.tree here) (no_rows first bits e) ∙ none_wanted p.tree here) h
    by true true e k = none_named id (wanted p.tree here (true_rows first bits)) false (numbered_wants p.tree (is.numbered ∙ k) here (true_rows first bits)) h
    by true false e k = is.wants store here first bits id holds w h

names_append : (id : ℕ) (ps qs : List Place) → names_id id (ps ++ qs) ≡ (names_id id ps || names_id id qs)
names_append id ps qs = list_any-append (λ (p : Place). p.id == id) ps qs

or_mono : (a b x y : Bool) → (a ≡ true → b ≡ true) → (x ≡ true → y ≡ true) → (a || x) ≡ true → (b || y) ≡ true
or_mono true b x y f g h = rw (f refl) refl
or_mono false true x y f g h = refl
or_mono false false x y f g h = g h

or_first : (a b : Bool) → a ≡ true → (a || b) ≡ true
or_first true b h = refl
or_first false b h = absurd cc

-- the places of two stages, of which the second is wanted where all of the first is here
abbrev pub after : Came → List Place → List Place → List Place
after here ws rest = ws ++ (if are_here ws here then rest else [])

-- two stages that go on with the rest, where all of the first is here
after_here : (here : Came) (ws mid rest : List Place) → are_here ws here ≡ true → after here (after here ws mid) rest ≡ ws ++ after here mid rest
after_here here ws mid rest h = rw (h, here_append ws mid here h) (append_assoc ws mid (if are_here mid here then rest else []))
  where
    append_assoc : (xs ys zs : List Place) → (xs ++ ys) ++ zs ≡ xs ++ (ys ++ zs)
    append_assoc [] ys zs = refl
    append_assoc (x ∷ xs) ys zs = ap (λ ps. x ∷ ps) (append_assoc xs ys zs)

append_none : (xs : List Place) → xs ++ [] ≡ xs
append_none [] = refl
append_none (x ∷ xs) = ap (λ ps. x ∷ ps) (append_none xs)

-- and where not
after_lacking : (here : Came) (ws mid rest : List Place) → are_here ws here ≡ false → after here (after here ws mid) rest ≡ ws
after_lacking here ws mid rest h =
    let none : after here ws mid ≡ ws = rw h (append_none ws) in
    rw none (rw h (append_none ws))

split_wants : (s : ReaderState) (cs : List Bound) (e : Bound) (ps : List PlanData) (p : PlanData) (store : Store) (here : Came) (first : ℕ) (bits : List Bool) (id : ℕ) → ArePlansOf s cs ps → IsPlanOf s e p → Holds store here → first + length bits ≤ s.rows
    → names_id id (after here (filters_wanted here bits (filters_from first ps)) (wanted p.tree here (true_rows first (filtered (arrived here) bits (filters_from first ps))))) ≡ true → split_may_want s cs e store first bits id ≡ true
split_wants s [] e [] p store here first bits id a is holds w h = rows_want s e p store here first bits id is holds w h
split_wants s [] e (q ∷ ps) p store here first bits id a is holds w h = absurd a
split_wants s (c ∷ cs) e [] p store here first bits id a is holds w h = absurd a
split_wants s (c ∷ cs) e (q ∷ ps) p store here first bits id a is holds w h =
    by (are_here ws here) refl (λ same more. split_wants s cs e ps p store here first (rows_true s c store first bits) id a.1 is holds (next_within s c store first bits w) (subst (λ (bs : List Bool). names_id id (rest bs) ≡ true) same more))
  where
    ws : List Place
    ws = wanted q.tree here (true_rows first bits)

    next : List Bool
    next = kept q.tree (arrived here) first bits

    rest : List Bool → List Place
    rest bs = after here (filters_wanted here bs (filters_from first ps)) (wanted p.tree here (true_rows first (filtered (arrived here) bs (filters_from first ps))))

    own : names_id id ws ≡ true → rows_may_want s c store first bits id ≡ true
    own n = rows_want s c q store here first bits id a.0.0 holds w n

    by : (b : Bool) → are_here ws here ≡ b → (next ≡ rows_true s c store first bits → names_id id (rest next) ≡ true → split_may_want s cs e store first (rows_true s c store first bits) id ≡ true)
        → (rows_may_want s c store first bits id || split_may_want s cs e store first (rows_true s c store first bits) id) ≡ true
    by true k later =
        let same : next ≡ rows_true s c store first bits = sym (kept_same q.tree first here store bits holds (here_complete ws here k)) ∙ kept_is s c q store first bits a.0.0 w in
        let both : (names_id id ws || names_id id (rest next)) ≡ true = sym (names_append id ws (rest next))
        ∙ sym (ap (names_id id) (after_here here ws (filters_wanted here next (filters_from first ps))
        (wanted p.tree here (true_rows first (filtered (arrived here) next (filters_from first ps)))) k)) ∙ h in
        or_mono (names_id id ws) (rows_may_want s c store first bits id) (names_id id (rest next)) (split_may_want s cs e store first (rows_true s c store first bits) id) own (later same) both
    by false k later =
        let alone : names_id id ws ≡ true = sym (ap (names_id id) (after_lacking here ws (filters_wanted here next (filters_from first ps)) (wanted p.tree here (true_rows first (filtered (arrived here) next (filters_from first ps)))) k)) ∙ h in
        or_first (rows_may_want s c store first bits id) (split_may_want s cs e store first (rows_true s c store first bits) id) (own alone)

-- ---- what is no good
nor : (a b : Bool) → a ≡ false → b ≡ false → (a || b) ≡ false
nor true b h k = absurd cc
nor false b h k = k

false_if : (b c : Bool) → c ≡ false → (if b then c else false) ≡ false
false_if true c h = h
false_if false c h = refl

no_segment : (ps : List Place) (here : Came) (id : ℕ) → ps ≡ [] → spoils ps here id ≡ false
no_segment ps here id e = ap (λ (qs : List Place). spoils qs here id) e

no_offset_spoiled : (o : OffsetsData) (here : Came) (id : ℕ) → offsets_spoiled o here [] id ≡ false
no_offset_spoiled o here id = nor (spoils (offsets_wanted o []) here id) false (no_segment (offsets_wanted o []) here id (no_rows_wanted 0 (offset_places o))) refl

mutual
  none_spoiled : (p : PlanTree) (here : Came) (id : ℕ) → spoiled p here [] id ≡ false
  none_spoiled (leaf d s gs) here id = no_segment (leaf_wanted 0 (places_of d s gs) []) here id (no_rows_wanted 0 (places_of d s gs))
  none_spoiled (rows d vs) here id = refl
  none_spoiled (evaluate d e p) here id = none_spoiled p here id
  none_spoiled (over d e ps) here id = none_spoiled_in ps here id
  none_spoiled (constant d e) here id = refl
  none_spoiled (lists d p o) here id =
      nor (offsets_spoiled o here [] id) (if knows_elements o here [] then spoiled p here [] id else false) (no_offset_spoiled o here id)
      (false_if (knows_elements o here []) (spoiled p here [] id) (none_spoiled p here id))
  none_spoiled (lengths o) here id = no_offset_spoiled o here id
  none_spoiled (valid p v) here id = nor (spoiled v here [] id) (spoiled p here [] id) (none_spoiled v here id) (none_spoiled p here id)
  none_spoiled (numbers k) here id = refl
  none_spoiled (by_lengths d e t f p) here id = none_spoiled p here id

  none_spoiled_in : (ps : PlanTrees) (here : Came) (id : ℕ) → any_spoiled ps here [] id ≡ false
  none_spoiled_in no_plans here id = refl
  none_spoiled_in (plan p ps) here id = nor (spoiled p here [] id) (any_spoiled ps here [] id) (none_spoiled p here id) (none_spoiled_in ps here id)

rows_spoil : (s : ReaderState) (c : Bound) (p : PlanData) (store : Store) (here : Came) (first : ℕ) (bits : List Bool) (id : ℕ) → IsPlanOf s c p
    → Holds store here → first + length bits ≤ s.rows → spoiled p.tree here (true_rows first bits) id ≡ true
    → rows_may_spoil s c store first bits id ≡ true
rows_spoil s c p store here first bits id is holds w h = by (has_true bits) (numbers_alone s c.expr) refl refl
  where
    m : Bool
    m = may_spoil s c store first (first + length bits) id

    by : (b n : Bool) → has_true bits ≡ b → numbers_alone s c.expr ≡ n → (b && (not n && m)) ≡ true
    by false n e k = sym (ap (λ js. spoiled p.tree here js id) (no_rows first bits e) ∙ none_spoiled p.tree here id) ∙ h
    by true true e k = sym (numbered_spoils p.tree (is.numbered ∙ k) here (true_rows first bits) id) ∙ h
    by true false e k = is.spoils store here first bits id holds w h

or_assoc : (a b c : Bool) → ((a || b) || c) ≡ (a || (b || c))
or_assoc true b c = refl
or_assoc false b c = refl

-- a projection behind filters
abbrev SpoiledBehind : Came → List Bool → List Filter → PlanTree → ℕ → ℕ → Bool
SpoiledBehind here bits fs p first id = filters_spoiled here bits fs id || (if are_here (filters_wanted here bits fs) here then spoiled p here (true_rows first (filtered (arrived here) bits fs)) id else false)

split_spoils : (s : ReaderState) (cs : List Bound) (e : Bound) (ps : List PlanData) (p : PlanData) (store : Store) (here : Came) (first : ℕ) (bits : List Bool) (id : ℕ) → ArePlansOf s cs ps → IsPlanOf s e p → Holds store here → first + length bits ≤ s.rows
    → SpoiledBehind here bits (filters_from first ps) p.tree first id ≡ true → split_may_spoil s cs e store first bits id ≡ true
split_spoils s [] e [] p store here first bits id a is holds w h = rows_spoil s e p store here first bits id is holds w h
split_spoils s [] e (q ∷ ps) p store here first bits id a is holds w h = absurd a
split_spoils s (c ∷ cs) e [] p store here first bits id a is holds w h = absurd a
split_spoils s (c ∷ cs) e (q ∷ ps) p store here first bits id a is holds w h =
    by (are_here ws here) refl (λ same more. split_spoils s cs e ps p store here first (rows_true s c store first bits) id a.1 is holds (next_within s c store first bits w)
    (subst (λ (bs : List Bool). SpoiledBehind here bs (filters_from first ps) p.tree first id ≡ true) same more)) h
  where
    ws : List Place
    ws = wanted q.tree here (true_rows first bits)

    next : List Bool
    next = kept q.tree (arrived here) first bits

    bad : Bool
    bad = spoiled q.tree here (true_rows first bits) id

    mid : Bool
    mid = filters_spoiled here next (filters_from first ps) id

    more : List Place
    more = filters_wanted here next (filters_from first ps)

    last : Bool
    last = spoiled p.tree here (true_rows first (filtered (arrived here) next (filters_from first ps))) id

    own : bad ≡ true → rows_may_spoil s c store first bits id ≡ true
    own b = rows_spoil s c q store here first bits id a.0.0 holds w b

    alone : (x : Bool) → ((x || false) || false) ≡ true → x ≡ true
    alone true z = refl
    alone false z = z

    by : (b : Bool) → are_here ws here ≡ b → (next ≡ rows_true s c store first bits → SpoiledBehind here next (filters_from first ps) p.tree first id ≡ true → split_may_spoil s cs e store first (rows_true s c store first bits) id ≡ true)
        → ((bad || (if b then mid else false)) || (if are_here (ws ++ (if b then more else [])) here then last else false)) ≡ true
        → (rows_may_spoil s c store first bits id || split_may_spoil s cs e store first (rows_true s c store first bits) id) ≡ true
    by true k later z =
        let same : next ≡ rows_true s c store first bits = sym (kept_same q.tree first here store bits holds (here_complete ws here k)) ∙ kept_is s c q store first bits a.0.0 w in
        let both : (bad || (mid || (if are_here more here then last else false))) ≡ true = sym (or_assoc bad mid (if are_here more here then last else false)) ∙ ap (λ b. (bad || mid) || (if b then last else false)) (sym (here_append ws more here k)) ∙ z in
        or_mono bad (rows_may_spoil s c store first bits id) (mid || (if are_here more here then last else false)) (split_may_spoil s cs e store first (rows_true s c store first bits) id) own (later same) both
    by false k later z =
        let none : are_here (ws ++ []) here ≡ false = ap (λ ps. are_here ps here) (append_none ws) ∙ k in
        let only : ((bad || false) || false) ≡ true = sym (ap (λ b. (bad || false) || (if b then last else false)) none) ∙ z in
        or_first (rows_may_spoil s c store first bits id) (split_may_spoil s cs e store first (rows_true s c store first bits) id) (own (alone bad only))

-- ---- a split
projected : (s : ReaderState) (cs : List Bound) (e : Bound) (p : PlansData) (first : ℕ) (mask : List Bool) → IsScanOf s cs e p → first + length mask ≤ s.rows → Projects s e first (mask_data mask (filters_from first p.conjuncts)) (split_data p first mask)
projected s cs e p first mask is w =
    let q = p.projection in
    let m = mask_data mask (filters_from first p.conjuncts) in
    let own : IsPlanOf s q.expr q = subst (λ (x : Bound). IsPlanOf s x q) (sym is.projection.expr) is.projection in
    subst (λ (x : Bound). Projects s x first m (split_data p first mask)) is.projection.expr (projection_means s q first (first + length mask) m own w refl)

pub split_means : (s : ReaderState) (cs : List Bound) (e : Bound) (p : PlansData) (first : ℕ) (mask : List Bool) → IsScanOf s cs e p → first + length mask ≤ s.rows → IsSplitOf s cs e first mask (split_data p first mask)
split_means s cs e p first mask is w = record {
  dtype = (projected s cs e p first mask is w).dtype;
  items = λ store. (projected s cs e p first mask is w).items store ∙ ap (λ bs. map (value_of s e store) (true_rows first bs)) (pass store);
  overflow = λ store. (projected s cs e p first mask is w).overflow store ∙ (λ i. spill store i || overflows_on s e store first (pass store i));
  damage = λ store. or_false (damaged store mask (filters_from first p.conjuncts)) ∙ filters_damaged s cs p.conjuncts store first mask is.conjuncts w;
  wants = λ store here id holds h. split_wants s cs e p.conjuncts p.projection store here first mask id is.conjuncts is.projection holds w h;
  spoils = λ store here id holds h. split_spoils s cs e p.conjuncts p.projection store here first mask id is.conjuncts is.projection holds w h;
}
  where
    pass : (store : Store) → filtered store mask (filters_from first p.conjuncts) ≡ passed s cs store first mask
    pass store = filters_pass s cs p.conjuncts store first mask is.conjuncts w

    spill : (store : Store) → spilled store mask (filters_from first p.conjuncts) ≡ passing_overflows s cs store first mask
    spill store = filters_spill s cs p.conjuncts store first mask is.conjuncts w
