-- Several masks: a walk over them, and values under them.
use Rattle.std.proofs.Common.{◌≡◌, ℕ, zero, suc, ◌+◌, ◌-◌, ◌<◌, ◌≤◌, Bool, true, false, ◌||◌, List, [], ◌∷◌, ◌++◌, map, length, take, drop, set, get_or, Option, Some, None, Result, Ok, Err, refl, ap, subst, ◌∙◌, sym, arith, append_assoc}
use Rattle.std.specs.Prelude.{if◌then◌else◌, IfOk}
use Rattle.std.proofs.lemmas.List.{drop_all, drop_more, append-nil}
use Rattle.scan_values.specs.Arrays.{ArrayData, of_parts}
use Rattle.scan_values.specs.DataType.{DataType, with_nullability}
use Rattle.scan_values.specs.declared.ptype.Nullability.TheVariants.{Nullable}
use Rattle.scan_values.specs.Marked.{Marked, null}
use Rattle.scan_values.specs.Masks.{null_where_false}
use Rattle.scan_values.specs.Selections.{is_among}
use Rattle.scan_values.specs.Val.{Val, marked}
use Rattle.scan_segments.specs.Source.{Store}
use Rattle.scan_spelling.specs.Places.{Place}
use Rattle.scan_splits.specs.Wanted.{is_any}
use Rattle.scan_plans.specs.Came.{Came, Holds}
use Rattle.scan_plans.specs.Given.{AreLacking}
use Rattle.scan_plans.specs.Knowing.{Knows}
use Rattle.scan_plans.specs.MaskLists.{first_runs, can_run, nulled, under, dtype_under, masks_damage, masks_overflow, masks_wanted, masks_spoiled, SameMasks}
use Rattle.scan_plans.specs.Masks.{MaskData, Filter, filters_wanted, mask_of, mask_overflow, mask_wanted, mask_spoiled, SameMask}
use Rattle.scan_plans.specs.Projecting.{AreKnown, AreComplete, KnowsAll, IsUnder, under_known, padded}
use Rattle.scan_plans.specs.Wants.{are_here, lacks, Complete, NoneBad, spoils}
use Rattle.scan_plans.specs.declared.fault.ReadFault.{ReadFault}
use Rattle.scan_plans.specs.declared.fault.ReadFault.TheVariants.{Corrupt, Overflow, NoMemory}
use Rattle.scan_plans.proofs.Collecting.{lacks_append, spoils_append}
use Rattle.scan_plans.proofs.Filtering.{not_here}
use Rattle.scan_plans.proofs.Futures.{known_mask, known_clean, known_within}
use Rattle.scan_plans.proofs.Progressing.{stays_same}
use Rattle.scan_plans.proofs.RowLemmas.{drop_twice}
use Rattle.scan_plans.proofs.Transfer.{complete_here}

or_false : (b : Bool) → (b || false) ≡ b
or_false true = refl
or_false false = refl

or_true : (b : Bool) → (b || true) ≡ true
or_true true = refl
or_true false = refl

-- ---- what is wanted first, and then

pub waits_then : (ps qs : List Place) (here : Came) (ids : List ℕ) → AreLacking ps here ids → AreLacking (ps ++ (if are_here ps here then qs else [])) here ids
waits_then ps qs here ids a = by (are_here ps here) refl
  where
    by : (b : Bool) → are_here ps here ≡ b → AreLacking (ps ++ (if b then qs else [])) here ids
    by true e = absurd (not_here ps here ids a.some a.exact e)
    by false e = record {
      some = a.some;
      exact = λ id. a.exact id ∙ sym (lacks_append ps [] here id ∙ or_false (lacks ps here id));
      good = λ id. spoils_append ps [] here id ∙ rw (a.good id) refl;
    }

spoils_then : (m : MaskData) (ms : List MaskData) (here : Came) (id : ℕ) (rest : Bool) → mask_spoiled m here id ≡ true → masks_spoiled (m ∷ ms) here id rest ≡ true
spoils_then m ms here id rest h = rw h refl

pub past_lacks : (ps qs : List Place) (here : Came) (id : ℕ) → Complete ps here → lacks (ps ++ (if are_here ps here then qs else [])) here id ≡ lacks qs here id
past_lacks ps qs here id c = lacks_append ps (if are_here ps here then qs else []) here id ∙ rw (c id, complete_here ps here c) refl

past_bad : (ps qs : List Place) (here : Came) (id : ℕ) → Complete ps here → NoneBad ps here → spoils (ps ++ (if are_here ps here then qs else [])) here id ≡ spoils qs here id
past_bad ps qs here id c g = spoils_append ps (if are_here ps here then qs else []) here id ∙ rw (g id, complete_here ps here c) refl

pub past_waits : (ps qs : List Place) (here : Came) (ids : List ℕ) → Complete ps here → NoneBad ps here → AreLacking qs here ids → AreLacking (ps ++ (if are_here ps here then qs else [])) here ids
past_waits ps qs here ids c g a = record { some = a.some; exact = λ id. a.exact id ∙ sym (past_lacks ps qs here id c); good = λ id. past_bad ps qs here id c g ∙ a.good id }

past_spoils : (m : MaskData) (ms : List MaskData) (here : Came) (id : ℕ) (rest : Bool) → Complete (mask_wanted m here) here → masks_spoiled ms here id rest ≡ true → masks_spoiled (m ∷ ms) here id rest ≡ true
past_spoils m ms here id rest c h = rw (complete_here (mask_wanted m here) here c, h) (or_true (mask_spoiled m here id))

-- ---- a walk over masks
-- so many are known, lack nothing, and have nothing bad, and the others are as they were
abbrev pub Walked : ℕ → Came → List MaskData → List MaskData → Type 0
Walked zero here now old = now ≡ old
Walked (suc k) here [] [] = Unit {0}
Walked (suc k) here [] (m ∷ ms) = ⊥
Walked (suc k) here (n ∷ ns) [] = ⊥
Walked (suc k) here (n ∷ ns) (m ∷ ms) = (SameMask here n m × (n.filters ≡ []) × Complete (mask_wanted m here) here × NoneBad (mask_wanted m here) here) × Walked k here ns ms

pub same_itself : (here : Came) (ms : List MaskData) → SameMasks here ms ms
same_itself here [] = tt
same_itself here (m ∷ ms) = (stays_same here m, same_itself here ms)

pub walk_same : (k : ℕ) (here : Came) (now old : List MaskData) → Walked k here now old → SameMasks here now old
walk_same zero here now old w = subst (λ (ms : List MaskData). SameMasks here now ms) w (same_itself here now)
walk_same (suc k) here [] [] w = tt
walk_same (suc k) here [] (m ∷ ms) w = absurd w
walk_same (suc k) here (n ∷ ns) [] w = absurd w
walk_same (suc k) here (n ∷ ns) (m ∷ ms) w = ((w.0).0, walk_same k here ns ms w.1)

pub walk_known : (k : ℕ) (here : Came) (now old : List MaskData) → Walked k here now old → length now ≤ k → AreKnown now × AreComplete old here
walk_known zero here [] old w h = subst (λ (ms : List MaskData). AreKnown [] × AreComplete ms here) w (tt, tt)
walk_known zero here (n ∷ ns) old w h = let z : ⊥ = omega (arith, h) in absurd z
walk_known (suc k) here [] [] w h = (tt, tt)
walk_known (suc k) here [] (m ∷ ms) w h = absurd w
walk_known (suc k) here (n ∷ ns) [] w h = absurd w
walk_known (suc k) here (n ∷ ns) (m ∷ ms) w h = let z = walk_known k here ns ms w.1 (omega (arith, h)) in (((w.0).1, z.0), ((w.0).2, (w.0).3, z.1))

-- the next one is as it was, and becomes another
pub walk_set : (k : ℕ) (here : Came) (now old : List MaskData) (m new : MaskData) → Walked k here now old → k < length now → m ≡ get_or now k m → SameMask here new m → SameMasks here (set now k new) old
walk_set zero here [] old m new w h e s = let z : ⊥ = omega (arith, h) in absurd z
walk_set zero here (n ∷ ns) old m new w h e s = subst (λ (ms : List MaskData). SameMasks here (new ∷ ns) ms) w (subst (λ (x : MaskData). SameMask here new x) e s, same_itself here ns)
walk_set (suc k) here [] old m new w h e s = let z : ⊥ = omega (arith, h) in absurd z
walk_set (suc k) here (n ∷ ns) [] m new w h e s = absurd w
walk_set (suc k) here (n ∷ ns) (x ∷ ms) m new w h e s = ((w.0).0, walk_set k here ns ms m new w.1 (omega (arith, h)) e s)

walk_step : (k : ℕ) (here : Came) (now old : List MaskData) (m new : MaskData) → Walked k here now old → k < length now → m ≡ get_or now k m → SameMask here new m → new.filters ≡ [] → Complete (mask_wanted m here) here → NoneBad (mask_wanted m here) here → Walked (suc k) here (set now k new) old
walk_step zero here [] old m new w h e s f c g = let z : ⊥ = omega (arith, h) in absurd z
walk_step zero here (n ∷ ns) old m new w h e s f c g =
    subst (λ (ms : List MaskData). Walked 1 here (new ∷ ns) ms) w ((subst (λ (x : MaskData). SameMask here new x) e s, f, subst (λ (x : MaskData). Complete (mask_wanted x here) here) e c, subst (λ (x : MaskData). NoneBad (mask_wanted x here) here) e g), refl)
walk_step (suc k) here [] old m new w h e s f c g = let z : ⊥ = omega (arith, h) in absurd z
walk_step (suc k) here (n ∷ ns) [] m new w h e s f c g = absurd w
walk_step (suc k) here (n ∷ ns) (x ∷ ms) m new w h e s f c g = (w.0, walk_step k here ns ms m new w.1 (omega (arith, h)) e s f c g)

pub walk_next : (k : ℕ) (here : Came) (now old : List MaskData) (m new : MaskData) → Walked k here now old → k < length now → m ≡ get_or now k m → SameMask here new m → Knows here m new (Ok None) → Walked (k + 1) here (set now k new) old
walk_next k here now old m new w h e s a = let up : suc k ≡ k + 1 = omega arith in subst (λ (n : ℕ). Walked n here (set now k new) old) up (walk_step k here now old m new w h e s a.0 a.1 a.2)

pub walk_waits : (k : ℕ) (here : Came) (now old : List MaskData) (m : MaskData) (ids : List ℕ) (rest : List Place) → Walked k here now old → k < length now → m ≡ get_or now k m → AreLacking (mask_wanted m here) here ids → AreLacking (masks_wanted old here rest) here ids
walk_waits zero here [] old m ids rest w h e a = let z : ⊥ = omega (arith, h) in absurd z
walk_waits zero here (n ∷ ns) old m ids rest w h e a =
    subst (λ (ms : List MaskData). AreLacking (masks_wanted ms here rest) here ids) w (waits_then (mask_wanted n here) (masks_wanted ns here rest) here ids (subst (λ (x : MaskData). AreLacking (mask_wanted x here) here ids) e a))
walk_waits (suc k) here [] old m ids rest w h e a = let z : ⊥ = omega (arith, h) in absurd z
walk_waits (suc k) here (n ∷ ns) [] m ids rest w h e a = absurd w
walk_waits (suc k) here (n ∷ ns) (x ∷ ms) m ids rest w h e a = past_waits (mask_wanted x here) (masks_wanted ms here rest) here ids (w.0).2 (w.0).3 (walk_waits k here ns ms m ids rest w.1 (omega (arith, h)) e a)

walk_spoils : (k : ℕ) (here : Came) (now old : List MaskData) (m : MaskData) (id : ℕ) (rest : Bool) → Walked k here now old → k < length now → m ≡ get_or now k m → mask_spoiled m here id ≡ true → masks_spoiled old here id rest ≡ true
walk_spoils zero here [] old m id rest w h e a = let z : ⊥ = omega (arith, h) in absurd z
walk_spoils zero here (n ∷ ns) old m id rest w h e a =
    subst (λ (ms : List MaskData). masks_spoiled ms here id rest ≡ true) w (spoils_then n ns here id rest (subst (λ (x : MaskData). mask_spoiled x here id ≡ true) e a))
walk_spoils (suc k) here [] old m id rest w h e a = let z : ⊥ = omega (arith, h) in absurd z
walk_spoils (suc k) here (n ∷ ns) [] m id rest w h e a = absurd w
walk_spoils (suc k) here (n ∷ ns) (x ∷ ms) m id rest w h e a = past_spoils x ms here id rest (w.0).2 (walk_spoils k here ns ms m id rest w.1 (omega (arith, h)) e a)

walk_spills : (k : ℕ) (here : Came) (now old : List MaskData) (m : MaskData) (store : Store) → Walked k here now old → k < length now → m ≡ get_or now k m → mask_overflow m store ≡ true → masks_overflow old store ≡ true
walk_spills zero here [] old m store w h e a = let z : ⊥ = omega (arith, h) in absurd z
walk_spills zero here (n ∷ ns) old m store w h e a = subst (λ (ms : List MaskData). masks_overflow ms store ≡ true) w (ap (λ b. b || masks_overflow ns store) (subst (λ (x : MaskData). mask_overflow x store ≡ true) e a))
walk_spills (suc k) here [] old m store w h e a = let z : ⊥ = omega (arith, h) in absurd z
walk_spills (suc k) here (n ∷ ns) [] m store w h e a = absurd w
walk_spills (suc k) here (n ∷ ns) (x ∷ ms) m store w h e a = ap (λ b. mask_overflow x store || b) (walk_spills k here ns ms m store w.1 (omega (arith, h)) e a) ∙ or_true (mask_overflow x store)

pub walk_fault : (k : ℕ) (here : Came) (now old after : List MaskData) (m new : MaskData) (x : ReadFault) → Walked k here now old → k < length now → m ≡ get_or now k m → Knows here m new (Err x) → KnowsAll here old after (Err x)
walk_fault k here now old after m new (Corrupt id) w h e a = λ rest. walk_spoils k here now old m id rest w h e a
walk_fault k here now old after m new Overflow w h e a = λ store held. walk_spills k here now old m store w h e (a store held)
walk_fault k here now old after m new NoMemory w h e a = tt

-- ---- what can run next
past_runs : (here : Came) (n : MaskData) (ns : List MaskData) → n.filters ≡ [] → can_run here (n ∷ ns) ≡ can_run here ns
past_runs here n ns e = ap (λ (gs : List Filter). first_runs here n.known gs (can_run here ns)) e

-- where one waits, nothing of those behind it can run
stuck_first : (here : Came) (bits : List Bool) (fs : List Filter) (ids : List ℕ) (rest : Bool) → is_any ids ≡ true → ((id : ℕ) → is_among ids id ≡ lacks (filters_wanted here bits fs) here id) → first_runs here bits fs false ≡ false → first_runs here bits fs rest ≡ false
stuck_first here bits [] ids rest some exact h = absurd (not_here [] here ids some exact refl)
stuck_first here bits (f ∷ fs) ids rest some exact h = h

pub waits_stuck : (here : Came) (m new : MaskData) (ids : List ℕ) (ms : List MaskData) → SameMask here new m → AreLacking (mask_wanted m here) here ids → can_run here (new ∷ []) ≡ false → can_run here (new ∷ ms) ≡ false
waits_stuck here m new ids ms s a h = stuck_first here new.known new.filters ids (can_run here ms) a.some (λ id. a.exact id ∙ sym (s.lacking here (λ j bytes is. is) id)) h

pub walk_stuck : (k : ℕ) (here : Came) (now old : List MaskData) (m new : MaskData) (ids : List ℕ) → Walked k here now old → k < length now → SameMask here new m → AreLacking (mask_wanted m here) here ids → can_run here (new ∷ []) ≡ false → can_run here (set now k new) ≡ false
walk_stuck zero here [] old m new ids w h s a r = let z : ⊥ = omega (arith, h) in absurd z
walk_stuck zero here (n ∷ ns) old m new ids w h s a r = waits_stuck here m new ids ns s a r
walk_stuck (suc k) here [] old m new ids w h s a r = let z : ⊥ = omega (arith, h) in absurd z
walk_stuck (suc k) here (n ∷ ns) [] m new ids w h s a r = absurd w
walk_stuck (suc k) here (n ∷ ns) (x ∷ ms) m new ids w h s a r = past_runs here n (set ns k new) (w.0).1 ∙ walk_stuck k here ns ms m new ids w.1 (omega (arith, h)) s a r

pub known_runs : (here : Came) (ms : List MaskData) → AreKnown ms → can_run here ms ≡ false
known_runs here [] k = refl
known_runs here (m ∷ ms) k = past_runs here m ms k.0 ∙ known_runs here ms k.1

pub then_runs : {A E : Type 0} (here : Came) (new : MaskData) (ns : List MaskData) (r : Result A E) → new.filters ≡ [] → IfOk r (λ _. can_run here ns ≡ false) → IfOk r (λ _. can_run here (new ∷ ns) ≡ false)
then_runs here new ns (Ok x) k h = past_runs here new ns k ∙ h
then_runs here new ns (Err f) k h = tt

pub still_runs : {A E : Type 0} (here : Came) (ms : List MaskData) (r : Result A E) → can_run here ms ≡ false → IfOk r (λ _. can_run here ms ≡ false)
still_runs here ms (Ok x) h = h
still_runs here ms (Err f) h = tt

-- ---- one mask, and then others

pub first_waits : (here : Came) (m new : MaskData) (ms after : List MaskData) (ids : List ℕ) → Knows here m new (Ok (Some ids)) → KnowsAll here (m ∷ ms) after (Ok (Some ids))
first_waits here m new ms after ids k = λ rest. waits_then (mask_wanted m here) (masks_wanted ms here rest) here ids k

pub then_others : (here : Came) (m new : MaskData) (ms news : List MaskData) (r : Result (Option (List ℕ)) ReadFault) → Knows here m new (Ok None) → KnowsAll here ms news r → KnowsAll here (m ∷ ms) (new ∷ news) r
then_others here m new ms news (Ok None) k a = ((k.0, a.0), (k.1, k.2, a.1))
then_others here m new ms news (Ok (Some ids)) k a = λ rest. past_waits (mask_wanted m here) (masks_wanted ms here rest) here ids k.1 k.2 (a rest)
then_others here m new ms news (Err (Corrupt id)) k a = λ rest. past_spoils m ms here id rest k.1 (a rest)
then_others here m new ms news (Err Overflow) k a = λ store held. ap (λ b. mask_overflow m store || b) (a store held) ∙ or_true (mask_overflow m store)
then_others here m new ms news (Err NoMemory) k a = tt

-- ---- where all are known
pub all_lacks : (ms : List MaskData) (here : Came) (rest : List Place) (id : ℕ) → AreComplete ms here → lacks (masks_wanted ms here rest) here id ≡ lacks rest here id
all_lacks [] here rest id c = refl
all_lacks (m ∷ ms) here rest id c = past_lacks (mask_wanted m here) (masks_wanted ms here rest) here id c.0 ∙ all_lacks ms here rest id c.2

pub all_bad : (ms : List MaskData) (here : Came) (rest : List Place) (id : ℕ) → AreComplete ms here → spoils (masks_wanted ms here rest) here id ≡ spoils rest here id
all_bad [] here rest id c = refl
all_bad (m ∷ ms) here rest id c = past_bad (mask_wanted m here) (masks_wanted ms here rest) here id c.0 c.1 ∙ all_bad ms here rest id c.2

pub all_spoils : (ms : List MaskData) (here : Came) (rest : Bool) (id : ℕ) → AreComplete ms here → rest ≡ true → masks_spoiled ms here id rest ≡ true
all_spoils [] here rest id c h = h
all_spoils (m ∷ ms) here rest id c h = past_spoils m ms here id rest c.0 (all_spoils ms here rest id c.2 h)

pub all_within : (ns ms : List MaskData) (here : Came) (store : Store) → SameMasks here ns ms → AreKnown ns → Holds store here → masks_overflow ms store ≡ false
all_within [] [] here store s k h = refl
all_within [] (m ∷ ms) here store s k h = absurd s
all_within (n ∷ ns) [] here store s k h = absurd s
all_within (n ∷ ns) (m ∷ ms) here store s k h = ap (λ b. b || masks_overflow ms store) (known_within here m n store s.0 k.0 h) ∙ all_within ns ms here store s.1 k.1 h

pub all_clean : (ns ms : List MaskData) (here : Came) (store : Store) → SameMasks here ns ms → AreKnown ns → Holds store here → masks_damage ms store ≡ false
all_clean [] [] here store s k h = refl
all_clean [] (m ∷ ms) here store s k h = absurd s
all_clean (n ∷ ns) [] here store s k h = absurd s
all_clean (n ∷ ns) (m ∷ ms) here store s k h = ap (λ b. b || masks_damage ms store) (known_clean here m n store s.0 k.0 h) ∙ all_clean ns ms here store s.1 k.1 h

pub all_under : (ns ms : List MaskData) (here : Came) (store : Store) (vs : List Marked) → SameMasks here ns ms → AreKnown ns → Holds store here → under store ms vs ≡ under_known ns vs
all_under [] [] here store vs s k h = refl
all_under [] (m ∷ ms) here store vs s k h = absurd s
all_under (n ∷ ns) [] here store vs s k h = absurd s
all_under (n ∷ ns) (m ∷ ms) here store vs s k h = ap (λ (bits : List Bool). under store ms (nulled bits vs)) (known_mask here m n store s.0 k.0 h) ∙ all_under ns ms here store (nulled n.known vs) s.1 k.1 h

pub all_dtype : (ns ms : List MaskData) (here : Came) (d : DataType) → SameMasks here ns ms → dtype_under ns d ≡ dtype_under ms d
all_dtype [] [] here d s = refl
all_dtype [] (m ∷ ms) here d s = absurd s
all_dtype (n ∷ ns) [] here d s = absurd s
all_dtype (n ∷ ns) (m ∷ ms) here d s = all_dtype ns ms here (with_nullability Nullable d) s.1

-- ---- one mask more
pub under_more : (store : Store) (ms : List MaskData) (m : MaskData) (vs : List Marked) → under store (ms ++ m ∷ []) vs ≡ nulled (mask_of m store) (under store ms vs)
under_more store [] m vs = refl
under_more store (x ∷ ms) m vs = under_more store ms m (nulled (mask_of x store) vs)

pub dtype_more : (ms : List MaskData) (m : MaskData) (d : DataType) → dtype_under (ms ++ m ∷ []) d ≡ with_nullability Nullable (dtype_under ms d)
dtype_more [] m d = refl
dtype_more (x ∷ ms) m d = dtype_more ms m (with_nullability Nullable d)

pub nulled_length : (bits : List Bool) (vs : List Marked) → length (nulled bits vs) ≡ length vs
nulled_length bits [] = refl
nulled_length [] (v ∷ vs) = ap suc (nulled_length [] vs)
nulled_length (true ∷ bits) (v ∷ vs) = ap suc (nulled_length bits vs)
nulled_length (false ∷ bits) (v ∷ vs) = ap suc (nulled_length bits vs)

-- ---- bits of as many rows
pub null_padded : (bits : List Bool) (vs : List Val) → map marked (null_where_false (padded (length vs) bits) vs) ≡ nulled bits (map marked vs)
null_padded bits [] = refl
null_padded [] (v ∷ vs) = ap (λ xs. null ∷ xs) (null_padded [] vs)
null_padded (true ∷ bits) (v ∷ vs) = ap (λ xs. marked v ∷ xs) (null_padded bits vs)
null_padded (false ∷ bits) (v ∷ vs) = ap (λ xs. null ∷ xs) (null_padded bits vs)

pub padded_length : (n : ℕ) (bits : List Bool) → length (padded n bits) ≡ n
padded_length zero bits = refl
padded_length (suc n) [] = ap suc (padded_length n [])
padded_length (suc n) (b ∷ bits) = ap suc (padded_length n bits)

padded_next : (n : ℕ) (bits : List Bool) → padded (suc n) bits ≡ get_or bits 0 false ∷ padded n (drop 1 bits)
padded_next n [] = refl
padded_next n (b ∷ bits) = refl

first_of_rest : (i : ℕ) (bits : List Bool) → get_or (drop i bits) 0 false ≡ get_or bits i false
first_of_rest zero bits = refl
first_of_rest (suc i) [] = refl
first_of_rest (suc i) (b ∷ bits) = first_of_rest i bits

pub padded_more : (n i : ℕ) (bits made more : List Bool) (b : Bool) → i < n → b ≡ get_or bits i false → more ≡ made ++ b ∷ [] → made ++ padded (n - i) (drop i bits) ≡ padded n bits → more ++ padded (n - (i + 1)) (drop (i + 1) bits) ≡ padded n bits
padded_more n i bits made more b h e m w =
    let left : n - i ≡ suc (n - (i + 1)) = omega (arith, h) in
    let next : padded (n - i) (drop i bits) ≡ b ∷ padded (n - (i + 1)) (drop (i + 1) bits) = ap (λ k. padded k (drop i bits)) left ∙ padded_next (n - (i + 1)) (drop i bits) ∙ (λ j. (first_of_rest i bits ∙ sym e) j ∷ padded (n - (i + 1)) (drop_twice i 1 bits j)) in
    ap (λ xs. xs ++ padded (n - (i + 1)) (drop (i + 1) bits)) m ∙ append_assoc made (b ∷ []) (padded (n - (i + 1)) (drop (i + 1) bits)) ∙ ap (λ xs. made ++ xs) (sym next) ∙ w

-- ---- an array under one mask more
module _ (ms : List MaskData) (k : ℕ) (m : MaskData) (l : k < length ms) (e : m ≡ get_or ms k m) (a b : ArrayData) (bits : List Bool) (g : bits ≡ padded (length a.items) m.known) (w : b ≡ of_parts (with_nullability Nullable a.dtype) (null_where_false bits a.items)) where
  masks_next : drop k ms ≡ m ∷ drop (k + 1) ms
  masks_next = drop_more ms k m l ∙ ap (λ x. x ∷ drop (k + 1) ms) (sym e)

  pub next_dtype : (d : DataType) → dtype_under (drop k ms) a.dtype ≡ d → dtype_under (drop (k + 1) ms) b.dtype ≡ d
  next_dtype d h = ap (λ (x : ArrayData). dtype_under (drop (k + 1) ms) x.dtype) w ∙ ap (λ xs. dtype_under xs a.dtype) (sym masks_next) ∙ h

  pub next_items : (vs : List Marked) → under_known (drop k ms) (map marked a.items) ≡ vs → under_known (drop (k + 1) ms) (map marked b.items) ≡ vs
  next_items vs h =
      ap (λ (x : ArrayData). under_known (drop (k + 1) ms) (map marked x.items)) w
      ∙ ap (λ (bs : List Bool). under_known (drop (k + 1) ms) (map marked (null_where_false bs a.items))) g
      ∙ ap (under_known (drop (k + 1) ms)) (null_padded m.known a.items) ∙ ap (λ xs. under_known xs (map marked a.items)) (sym masks_next) ∙ h

pub under_done : (ms : List MaskData) (k : ℕ) (a b : ArrayData) → length ms ≤ k → dtype_under (drop k ms) b.dtype ≡ dtype_under ms a.dtype → under_known (drop k ms) (map marked b.items) ≡ under_known ms (map marked a.items) → IsUnder ms a b
under_done ms k a b h d i = (ap (λ xs. dtype_under xs b.dtype) (sym (drop_all k ms h)) ∙ d, ap (λ xs. under_known xs (map marked b.items)) (sym (drop_all k ms h)) ∙ i)

-- ---- what a loan of a whole list writes back
pub same_length : (here : Came) (ns ms : List MaskData) → SameMasks here ns ms → length ns ≡ length ms
same_length here [] [] s = refl
same_length here [] (m ∷ ms) s = absurd s
same_length here (n ∷ ns) [] s = absurd s
same_length here (n ∷ ns) (m ∷ ms) s = ap suc (same_length here ns ms s.1)

take_whole : {A : Type 0} (xs : List A) (n : ℕ) → n ≡ length xs → take n xs ≡ xs
take_whole [] zero e = refl
take_whole [] (suc n) e = refl
take_whole (x ∷ xs) zero e = let z : ⊥ = omega (arith, e) in absurd z
take_whole (x ∷ xs) (suc n) e = ap (λ ys. x ∷ ys) (take_whole xs n (omega (arith, e)))

pub whole_back : {A : Type 0} (n : ℕ) (old new : List A) → n ≡ length old → length new ≡ length old → take n (new ++ drop (length new) old) ≡ new
whole_back n old new h g =
    ap (λ xs. take n (new ++ xs)) (drop_all (length new) old (omega (arith, g))) ∙ ap (take n) (append-nil new) ∙ take_whole new n (omega (arith, h, g))
