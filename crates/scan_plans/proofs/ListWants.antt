-- What lists want: their offsets, and then the elements between these.
use Rattle.std.proofs.Common.{◌≡◌, ℕ, ◌+◌, ◌<◌, ◌≤◌, ◌==◌, Bool, true, false, ◌||◌, List, [], ◌∷◌, ◌++◌, length, drop, get_or, Some, None, Result, Ok, Err, refl, ap, ◌∙◌, sym, arith}
use Rattle.std.specs.Prelude.{if◌then◌else◌}
use Rattle.std.proofs.lemmas.Bool.{eqb-true}
use Rattle.std.proofs.lemmas.List.Folds.{list_any-append}
use Rattle.scan_splits.specs.Wanted.{with_id, is_any}
use Rattle.scan_values.specs.DataType.{DataType}
use Rattle.scan_values.specs.Selections.{is_among}
use Rattle.scan_spelling.specs.Places.{Place}
use Rattle.scan_plans.specs.PlanTree.{PlanTree, leaf, rows, evaluate, over, constant, lists, lengths, valid, numbers, by_lengths, PlanTrees, no_plans, plan}
use Rattle.scan_plans.specs.Came.{Came, arrived}
use Rattle.scan_plans.specs.Lists.{rows_on, is_whole, element_rows, IsSpan}
use Rattle.scan_plans.specs.Meaning.{Within, AllWithin, true_rows}
use Rattle.scan_plans.specs.OffsetReads.{AreRows, CutsWhole, WantsRows, ElementsOf, AddsOffsets, NextOf, AddsIds}
use Rattle.scan_plans.specs.OffsetsData.{OffsetsData, offset_places}
use Rattle.scan_plans.specs.Reads.{Collects, CollectsPlan}
use Rattle.scan_plans.specs.Wants.{leaf_wanted, offsets_wanted, are_here, knows_elements, wanted, lacks, Complete, spoils, spoiled, offsets_spoiled}
use Rattle.scan_plans.specs.declared.fault.ReadFault.{ReadFault}
use Rattle.scan_plans.specs.declared.fault.ReadFault.TheVariants.{Corrupt, Overflow, NoMemory}
use Rattle.scan_plans.specs.declared.lists.Span.{Span}
use Rattle.scan_plans.specs.declared.lists.Whole.{Whole}
use Rattle.scan_plans.proofs.Collecting.{lacks_append}
use Rattle.scan_plans.proofs.Filtering.{not_here}
use Rattle.scan_plans.proofs.OffsetChecks.{next_item, drop_past}
use Rattle.scan_plans.proofs.Transfer.{knows_here}
use Rattle.scan_plans.proofs.WholeLists.{cut_read, read_mask}

or_true : (b : Bool) → (b || true) ≡ true
or_true true = refl
or_true false = refl

or_false : (b : Bool) → (b || false) ≡ b
or_false true = refl
or_false false = refl

or_assoc : (a b c : Bool) → ((a || b) || c) ≡ (a || (b || c))
or_assoc true b c = refl
or_assoc false b c = refl

-- ---- fewer rows
mutual
  pub within_fewer : (p : PlanTree) (n m : ℕ) → m ≤ n → Within p n → Within p m
  within_fewer (leaf d s gs) n m h w = omega (arith, h, w)
  within_fewer (rows d vs) n m h w = omega (arith, h, w)
  within_fewer (evaluate d e p) n m h w = within_fewer p n m h w
  within_fewer (over d e ps) n m h w = all_within_fewer ps n m h w
  within_fewer (constant d e) n m h w = w
  within_fewer (lists d p o) n m h w = (omega (arith, h, w.0), w.1)
  within_fewer (lengths o) n m h w = omega (arith, h, w)
  within_fewer (valid p v) n m h w = (within_fewer v n m h w.0, within_fewer p n m h w.1)
  within_fewer (numbers k) n m h w = omega (arith, h, w)
  within_fewer (by_lengths d e t f p) n m h w = within_fewer p n m h w

  pub all_within_fewer : (ps : PlanTrees) (n m : ℕ) → m ≤ n → AllWithin ps n → AllWithin ps m
  all_within_fewer no_plans n m h w = w
  all_within_fewer (plan p ps) n m h w = (within_fewer p n m h w.0, all_within_fewer ps n m h w.1)

-- ---- offsets alone
none_wanted : (base : ℕ) (ps : List Place) → leaf_wanted base ps [] ≡ []
none_wanted base [] = refl
none_wanted base (p ∷ ps) = none_wanted (base + p.rows) ps

pub offsets_collected : {A : Type 0} (old new : List ℕ) (o : OffsetsData) (here : Came) (is : List ℕ) (i : ℕ) (mask : List Bool) (r : Result A ReadFault)
    → IsSpan is i mask → Collects old new (leaf_wanted 0 (offset_places o) (rows_on i (length mask + 1))) here r → CollectsPlan old new (lengths o) here is r
offsets_collected old new o here is i mask (Ok x) s h = λ id. h id ∙ ap (λ (js : List ℕ). is_among old id || lacks (leaf_wanted 0 (offset_places o) js) here id) (sym s.offsets)
offsets_collected old new o here is i mask (Err (Corrupt id)) s h = let z : spoils (offsets_wanted o is) here id ≡ true = ap (λ (js : List ℕ). spoils (leaf_wanted 0 (offset_places o) js) here id) s.offsets ∙ h in rw z refl
offsets_collected old new o here is i mask (Err Overflow) s h = h
offsets_collected old new o here is i mask (Err NoMemory) s h = tt

pub nothing_collected : {A : Type 0} (old : List ℕ) (o : OffsetsData) (here : Came) (is : List ℕ) (x : A) → is ≡ [] → CollectsPlan old old (lengths o) here is (Ok x)
nothing_collected old o here is x e = λ id.
    let none : offsets_wanted o is ≡ [] = ap (offsets_wanted o) e ∙ none_wanted 0 (offset_places o) in
    sym (or_false (is_among old id)) ∙ ap (λ ps. is_among old id || lacks ps here id) (sym none)

-- ---- and then elements
pub none_known : {A : Type 0} (old new : List ℕ) (d : DataType) (p : PlanTree) (o : OffsetsData) (here : Came) (is : List ℕ) (x : A) → AddsOffsets old new o here is → knows_elements o here is ≡ false → CollectsPlan old new (lists d p o) here is (Ok x)
none_known old new d p o here is x a k = λ id.
    let rest = wanted p here (element_rows o (arrived here) is) in
    a id ∙ ap (λ b. is_among old id || b) (sym (lacks_append (offsets_wanted o is) (if knows_elements o here is then rest else []) here id ∙ ap (λ b. lacks (offsets_wanted o is) here id || lacks (if b then rest else []) here id) k ∙ or_false (lacks (offsets_wanted o is) here id)))

pub then_elements : {A : Type 0} (old mid new : List ℕ) (d : DataType) (p : PlanTree) (o : OffsetsData) (here : Came) (is : List ℕ) (s : Span) (r : Result A ReadFault) → AddsOffsets old mid o here is → WantsRows o here is s
    → CollectsPlan mid new p here (true_rows s.first s.mask) r → CollectsPlan old new (lists d p o) here is r
then_elements old mid new d p o here is s (Ok x) a w h = λ id.
    let rest = wanted p here (element_rows o (arrived here) is) in
    h id ∙ ap (λ (js : List ℕ). is_among mid id || lacks (wanted p here js) here id) (sym w.rows)
    ∙ ap (λ b. b || lacks rest here id) (a id) ∙ or_assoc (is_among old id) (lacks (offsets_wanted o is) here id) (lacks rest here id)
    ∙ ap (λ b. is_among old id || b) (sym (lacks_append (offsets_wanted o is) (if knows_elements o here is then rest else []) here id ∙ ap (λ b. lacks (offsets_wanted o is) here id || lacks (if b then rest else []) here id) w.known))
then_elements old mid new d p o here is s (Err (Corrupt id)) a w h =
    let z : spoiled p here (element_rows o (arrived here) is) id ≡ true = ap (λ (js : List ℕ). spoiled p here js id) w.rows ∙ h in
    ap (λ b. offsets_spoiled o here is id || (if b then spoiled p here (element_rows o (arrived here) is) id else false)) w.known ∙ ap (λ b. offsets_spoiled o here is id || b) z ∙ or_true (offsets_spoiled o here is id)
then_elements old mid new d p o here is s (Err Overflow) a w h = h
then_elements old mid new d p o here is s (Err NoMemory) a w h = tt

pub lists_stopped : (B : Type 0) (old mid new last : List ℕ) (d : DataType) (p : PlanTree) (o : OffsetsData) (here : Came) (is : List ℕ) (f : ReadFault) → NextOf old mid o here is (Err f) → CollectsPlan {A = B} new last (lists d p o) here is (Err f)
lists_stopped B old mid new last d p o here is (Corrupt id) h = rw h refl
lists_stopped B old mid new last d p o here is Overflow h = h
lists_stopped B old mid new last d p o here is NoMemory h = tt

-- ---- ids one after another
with_among : (id j : ℕ) (ids : List ℕ) → is_among (with_id id ids) j ≡ (is_among ids j || (id == j))
with_among id j ids = by (is_among ids id) refl (id == j) refl
  where
    by : (b : Bool) → is_among ids id ≡ b → (c : Bool) → (id == j) ≡ c → is_among (if b then ids else ids ++ id ∷ []) j ≡ (is_among ids j || c)
    by true e true f = let there : is_among ids j ≡ true = ap (λ n. is_among ids n) (sym (eqb-true id j f)) ∙ e in rw there refl
    by true e false f = sym (or_false (is_among ids j))
    by false e c f = list_any-append (λ x. x == j) ids (id ∷ []) ∙ ap (λ b. is_among ids j || b) (or_false (id == j) ∙ f)

-- the ids so far, with the rest, are the old ones with all
abbrev pub Adding : List ℕ → List ℕ → List ℕ → List ℕ → Type 0
Adding old now rest ids = (j : ℕ) → (is_among now j || is_among rest j) ≡ (is_among old j || is_among ids j)

pub adding_next : (old now new ids : List ℕ) (k id : ℕ) (all : List ℕ) → k < length ids → id ≡ get_or ids k id → new ≡ with_id id now → Adding old now (drop k ids) all → Adding old new (drop (k + 1) ids) all
adding_next old now new ids k id all h e n a = λ j.
    ap (λ (xs : List ℕ). is_among xs j || is_among (drop (k + 1) ids) j) n ∙ ap (λ b. b || is_among (drop (k + 1) ids) j) (with_among id j now)
    ∙ or_assoc (is_among now j) (id == j) (is_among (drop (k + 1) ids) j) ∙ ap (λ (xs : List ℕ). is_among now j || is_among xs j) (sym (next_item k ids id h e)) ∙ a j

pub adding_end : (old now ids : List ℕ) (k : ℕ) (all : List ℕ) → length ids ≤ k → Adding old now (drop k ids) all → (j : ℕ) → is_among now j ≡ (is_among old j || is_among all j)
adding_end old now ids k all h a = λ j. sym (or_false (is_among now j)) ∙ ap (λ (xs : List ℕ). is_among now j || is_among xs j) (sym (drop_past k ids h)) ∙ a j

-- ---- what comes next
pub cut_known : (o : OffsetsData) (here : Came) (is : List ℕ) (w : Whole) → Complete (offsets_wanted o is) here → CutsWhole o here is (Ok (Some w)) → WantsRows o here is w.rows
cut_known o here is w c k =
    let r = cut_read o (arrived here) is w.cut w.rows.first w.rows.mask k.0 k.1 in record {
      known = knows_here o here is c;
      rows = read_mask o (arrived here) is w.cut.offsets.items w.rows.first w.rows.mask r;
      within = r.within;
    }

pub empty_known : (o : OffsetsData) (here : Came) (is : List ℕ) (s : Span) → Complete (offsets_wanted o is) here → is ≡ [] → AreRows 0 0 s.first s.mask → WantsRows o here is s
empty_known o here is s c e v =
    let long : length s.mask ≡ 0 = ap length v.1 in record {
      known = knows_here o here is c;
      rows = ap (element_rows o (arrived here)) e ∙ (λ i. true_rows (sym v.0 i) (sym v.1 i));
      within = omega (arith, v.0, long);
    }

pub elements_stopped : (o : OffsetsData) (here : Came) (is : List ℕ) (f : ReadFault) → CutsWhole o here is (Err f) → Complete (offsets_wanted o is) here → ElementsOf o here is (Err f)
elements_stopped o here is (Corrupt id) h c = h c
elements_stopped o here is Overflow h c = h
elements_stopped o here is NoMemory h c = tt

-- offsets that lack
pub offsets_lack : {A : Type 0} (old new found ids : List ℕ) (o : OffsetsData) (here : Came) (is : List ℕ) (x : A) → is_whole o is ≡ false → is_any ids ≡ true → AddsOffsets [] found o here is → ids ≡ found → AddsIds old ids new (Ok x) → NextOf old new o here is (Ok None)
offsets_lack old new found ids o here is x e some c same h =
    let exact : (id : ℕ) → is_among ids id ≡ lacks (offsets_wanted o is) here id = λ id. ap (λ (xs : List ℕ). is_among xs id) same ∙ c id in
    (λ id. h id ∙ ap (λ b. is_among old id || b) (exact id), ap (λ b. b || are_here (offsets_wanted o is) here) e ∙ by (are_here (offsets_wanted o is) here) refl exact)
  where
    by : (b : Bool) → are_here (offsets_wanted o is) here ≡ b → ((id : ℕ) → is_among ids id ≡ lacks (offsets_wanted o is) here id) → b ≡ false
    by true e a = absurd (not_here (offsets_wanted o is) here ids some a e)
    by false e a = refl
