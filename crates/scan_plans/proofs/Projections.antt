-- The array of a future: its masks first, then its values.
use Rattle.std.proofs.Common.{◌≡◌, ◌+◌, ℕ, Bool, true, false, ◌||◌, List, [], ◌∷◌, map, drop, length, replicate, get_or, Some, None, Result, Ok, Err, refl, ap, ◌∙◌, sym}
use Rattle.std.proofs.lemmas.List.{length-map}
use Rattle.scan_values.specs.Arrays.{ArrayData}
use Rattle.scan_values.specs.DataType.{DataType}
use Rattle.scan_values.specs.Marked.{Marked}
use Rattle.scan_values.specs.Val.{Val, null_val, marked}
use Rattle.scan_segments.specs.Source.{Store}
use Rattle.scan_plans.specs.Came.{Came, arrived, Holds}
use Rattle.scan_plans.specs.Futures.{FutureData, masks_in, rows_of, SameFuture}
use Rattle.scan_plans.specs.Given.{Gives}
use Rattle.scan_plans.specs.MaskLists.{under, nulled, dtype_under, masks_overflow}
use Rattle.scan_plans.specs.Masks.{MaskData, mask_of}
use Rattle.scan_plans.specs.Meaning.{value_at, overflow_on, plan_dtype, true_rows}
use Rattle.scan_plans.specs.PlanTree.{rows}
use Rattle.scan_plans.specs.Projecting.{KnowsAll, IsUnder, under_known, Projects, KnowsItems}
use Rattle.scan_plans.specs.Wants.{wanted, lacks, Complete, spoils, spoiled}
use Rattle.scan_plans.specs.declared.fault.ReadFault.{ReadFault}
use Rattle.scan_plans.specs.declared.fault.ReadFault.TheVariants.{Corrupt, Overflow, NoMemory}
use Rattle.scan_plans.specs.declared.given.Given.TheVariants as given
use Rattle.scan_plans.specs.declared.future.Items.{Items}
use Rattle.scan_plans.specs.declared.future.Items.TheVariants.{Ready, Pending}
use Rattle.scan_plans.proofs.Futures.{holds_itself, known_mask}
use Rattle.scan_plans.proofs.Outer.{all_lacks, all_bad, all_spoils, all_clean, all_within, all_under, all_dtype, nulled_length}
use Rattle.scan_plans.proofs.Segments.{next_drop, at_drop}
use Rattle.scan_plans.proofs.Transfer.{items_same, overflow_on_same}

or_true : (b : Bool) → (b || true) ≡ true
or_true true = refl
or_true false = refl

-- ---- an array that is there
all_from : (all vs : List Val) (k : ℕ) → drop k all ≡ vs → map (λ i. marked (get_or all i null_val)) (true_rows k (replicate (length vs) true)) ≡ map marked vs
all_from all [] k e = refl
all_from all (v ∷ vs) k e = rw (at_drop null_val k all v vs e) (ap (λ xs. marked v ∷ xs) (all_from all vs (k + 1) (next_drop k all v vs e)))

pub all_rows : (d : DataType) (vs : List Val) (store : Store) → map (value_at (rows d vs) store) (true_rows 0 (replicate (length vs) true)) ≡ map marked vs
all_rows d vs store = all_from vs vs 0 refl

none_over : (d : DataType) (vs : List Val) (store : Store) (is : List ℕ) → overflow_on (rows d vs) store is ≡ false
none_over d vs store [] = refl
none_over d vs store (i ∷ is) = none_over d vs store is

pub array_gives : (here : Came) (a b : ArrayData) → b ≡ a → Gives (rows a.dtype a.items) here (true_rows 0 (replicate (length a.items) true)) (Ok (given.Ready b))
array_gives here a b e = (
  λ id. refl,
  record {
    dtype = ap (λ (x : ArrayData). x.dtype) e;
    items = ap (λ (x : ArrayData). map marked x.items) e ∙ sym (all_rows a.dtype a.items (arrived here));
    within = none_over a.dtype a.items (arrived here) (true_rows 0 (replicate (length a.items) true));
    found = λ id. refl;
  },
)

-- ---- where the masks are known
module _ (here : Came) (new old : FutureData) (s : SameFuture here new old) (k : KnowsAll here (masks_in old) (masks_in new) (Ok None)) where
  abbrev pub rows_now : List ℕ
  rows_now = true_rows new.first (new.mask).known

  rows_same : (store : Store) → Holds store here → rows_now ≡ rows_of old store
  rows_same store h = λ i. true_rows (s.first i) (sym (known_mask here old.mask new.mask store (s.masks).0 (k.0).0 h) i)

  wants_same : wanted new.tree here rows_now ≡ wanted old.tree here (rows_of old (arrived here))
  wants_same = λ i. wanted (s.tree i) here (rows_same (arrived here) (holds_itself here) i)

  spilled_same : (store : Store) → Holds store here → Complete (wanted new.tree here rows_now) here → overflow_on old.tree store (rows_of old store) ≡ overflow_on new.tree (arrived here) rows_now
  spilled_same store h c = (λ i. overflow_on (sym s.tree i) store (sym (rows_same store h) i)) ∙ overflow_on_same new.tree here store rows_now h c

  pub values_ready : (a b : ArrayData) → Gives new.tree here rows_now (Ok (given.Ready a)) → IsUnder new.outer a b → Projects here old (Ok (Ready b))
  values_ready a b g u = record {
    dtype = u.0 ∙ ap (dtype_under new.outer) (g.1).dtype ∙ all_dtype new.outer old.outer here (plan_dtype new.tree) (s.masks).1 ∙ ap (λ t. dtype_under old.outer (plan_dtype t)) s.tree;
    items = λ store h.
        u.1 ∙ ap (under_known new.outer) ((g.1).items ∙ sym (items_same new.tree here store rows_now h g.0))
        ∙ sym (all_under new.outer old.outer here store (map (value_at new.tree store) rows_now) (s.masks).1 (k.0).1 h)
        ∙ (λ i. under store old.outer (map (value_at (s.tree i) store) (rows_same store h i)));
    within = λ store h. ap (λ b. b || overflow_on old.tree store (rows_of old store)) (all_within (masks_in new) (masks_in old) here store s.masks k.0 h) ∙ spilled_same store h g.0 ∙ (g.1).within;
    clean = λ store h. all_clean (masks_in new) (masks_in old) here store s.masks k.0 h;
  }

  pub values_wait : (ids : List ℕ) → Gives new.tree here rows_now (Ok (given.Pending ids)) → Projects here old (Ok (Pending ids))
  values_wait ids g = record {
    some = g.some;
    exact = λ id. g.exact id ∙ ap (λ ps. lacks ps here id) wants_same ∙ sym (all_lacks (masks_in old) here (wanted old.tree here (rows_of old (arrived here))) id k.1);
    good = λ id. all_bad (masks_in old) here (wanted old.tree here (rows_of old (arrived here))) id k.1 ∙ ap (λ ps. spoils ps here id) (sym wants_same) ∙ g.good id;
  }

  pub values_fault : (x : ReadFault) → Gives new.tree here rows_now (Err x) → Projects here old (Err x)
  values_fault (Corrupt id) g = all_spoils (masks_in old) here (spoiled old.tree here (rows_of old (arrived here)) id) id k.1 ((λ i. spoiled (sym s.tree i) here (sym (rows_same (arrived here) (holds_itself here)) i) id) ∙ g)
  values_fault Overflow g = λ store h. ap (λ b. masks_overflow (masks_in old) store || b) (spilled_same store h g.0 ∙ g.1) ∙ or_true (masks_overflow (masks_in old) store)
  values_fault NoMemory g = tt

  under_length : (store : Store) (ms : List MaskData) (vs : List Marked) → length (under store ms vs) ≡ length vs
  under_length store [] vs = refl
  under_length store (m ∷ ms) vs = under_length store ms (nulled (mask_of m store) vs) ∙ nulled_length (mask_of m store) vs

  counts : (a : ArrayData) → Projects here old (Ok (Ready a)) → length a.items ≡ length rows_now
  counts a p =
      sym (length-map a.items marked) ∙ ap length (p.items (arrived here) (holds_itself here))
      ∙ under_length (arrived here) old.outer (map (value_at old.tree (arrived here)) (rows_of old (arrived here)))
      ∙ length-map (rows_of old (arrived here)) (value_at old.tree (arrived here))
      ∙ ap length (sym (rows_same (arrived here) (holds_itself here)))

  pub rows_known : (r : Result Items ReadFault) → Projects here old r → KnowsItems here old new r
  rows_known (Ok (Ready a)) p = record { rows = rows_same; count = counts a p }
  rows_known (Ok (Pending ids)) p = tt
  rows_known (Err f) p = tt

-- ---- where they are not
pub masks_wait : (here : Came) (old : FutureData) (after : FutureData) (ids : List ℕ) → KnowsAll here (masks_in old) (masks_in after) (Ok (Some ids)) → Projects here old (Ok (Pending ids))
masks_wait here old after ids k = k (wanted old.tree here (rows_of old (arrived here)))
