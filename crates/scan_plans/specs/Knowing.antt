-- What filters do to a mask.
use Rattle.std.specs.Prelude.{◌≡◌, ℕ, zero, suc, Bool, true, false, List, [], ◌∷◌, drop, map, Option, Some, None, Result, Ok, Err}
use Rattle.scan_values.specs.Marked.{is_true}
use Rattle.scan_values.specs.Masks.{by_rank}
use Rattle.scan_values.specs.Val.{Val, marked}
use Rattle.scan_segments.specs.Source.{Store}
use Rattle.scan_plans.specs.Came.{Came, arrived, Holds}
use Rattle.scan_plans.specs.Given.{AreLacking}
use Rattle.scan_plans.specs.Masks.{MaskData, Filter, kept, filters_wanted, filters_spoiled, mask_wanted, mask_spoiled, mask_overflow, spilled}
use Rattle.scan_plans.specs.Meaning.{damage_on, overflow_on, true_rows}
use Rattle.scan_plans.specs.Wants.{wanted, Complete, NoneBad, spoiled}
use Rattle.scan_plans.specs.declared.fault.ReadFault.{ReadFault}
use Rattle.scan_plans.specs.declared.fault.ReadFault.TheVariants.{Corrupt, Overflow, NoMemory}
use Rattle.scan_plans.specs.declared.mask.Ran.{Ran}
use Rattle.scan_plans.specs.declared.mask.Ran.TheVariants.{Known, Pending}
use Rattle.scan_plans.specs.declared.mask.Progress.{Progress}

-- of the true rows of a mask those stay at which the values are true
abbrev pub KeepsRows : List Bool → List Val → List Bool → Type 0
KeepsRows bits items new = new ≡ by_rank bits (map (λ v. is_true (marked v)) items)

-- nothing lacks for a filter over a mask, it does not overflow, nothing that it wants is bad, and it is not damaged
abbrev pub RunsWell : Came → List Bool → Filter → Type 0
RunsWell here bits f =
    Complete (wanted f.0 here (true_rows f.1 bits)) here
    × (overflow_on f.0 (arrived here) (true_rows f.1 bits) ≡ false)
    × NoneBad (wanted f.0 here (true_rows f.1 bits)) here
    × (damage_on f.0 (arrived here) (true_rows f.1 bits) ≡ false)

-- a filter over a mask: the mask after it, the ids that lack, one that is no good, or an overflow
abbrev pub Runs : Came → List Bool → Filter → Result Ran ReadFault → Type 0
Runs here bits f (Ok (Known new)) = RunsWell here bits f × (new ≡ kept f.0 (arrived here) f.1 bits)
Runs here bits f (Ok (Pending ids)) = AreLacking (wanted f.0 here (true_rows f.1 bits)) here ids
Runs here bits f (Err (Corrupt id)) = spoiled f.0 here (true_rows f.1 bits) id ≡ true
Runs here bits f (Err Overflow) = Complete (wanted f.0 here (true_rows f.1 bits)) here × (overflow_on f.0 (arrived here) (true_rows f.1 bits) ≡ true)
Runs here bits f (Err NoMemory) = Unit {0}

-- after so many filters a mask is another one
abbrev pub Reaches : Came → List Bool → List Filter → ℕ → List Bool → Type 0
Reaches here bits fs zero new = new ≡ bits
Reaches here bits [] (suc n) new = ⊥
Reaches here bits (f ∷ fs) (suc n) new = RunsWell here bits f × Reaches here (kept f.0 (arrived here) f.1 bits) fs n new

-- filters over a mask overflow, whatever holds what has arrived
abbrev pub Spills : Came → List Bool → List Filter → Type 0
Spills here bits fs = (store : Store) → Holds store here → spilled store bits fs ≡ true

-- the first of these filters lacks these ids
abbrev pub FirstLacks : Came → List Bool → List Filter → List ℕ → Type 0
FirstLacks here bits [] ids = ⊥
FirstLacks here bits (f ∷ fs) ids = AreLacking (wanted f.0 here (true_rows f.1 bits)) here ids

abbrev pub Lacking : Came → List Bool → List Filter → Option (List ℕ) → Type 0
Lacking here bits fs None = fs ≡ []
Lacking here bits fs (Some ids) = FirstLacks here bits fs ids

-- filters over a mask: how far they get and what lacks there, a segment that is no good, or an overflow
abbrev pub RunsAll : Came → List Bool → List Filter → Result Progress ReadFault → Type 0
RunsAll here bits fs (Ok p) = Reaches here bits fs p.ran p.known × Lacking here p.known (drop p.ran fs) p.lacking
RunsAll here bits fs (Err (Corrupt id)) = filters_spoiled here bits fs id ≡ true
RunsAll here bits fs (Err Overflow) = Spills here bits fs
RunsAll here bits fs (Err NoMemory) = Unit {0}

-- the ids that lack of a mask future, none where it is known from then on, a segment that is no good, or an overflow
abbrev pub Knows : Came → MaskData → MaskData → Result (Option (List ℕ)) ReadFault → Type 0
Knows here old new (Ok None) = (new.filters ≡ []) × Complete (mask_wanted old here) here × NoneBad (mask_wanted old here) here
Knows here old new (Ok (Some ids)) = AreLacking (mask_wanted old here) here ids
Knows here old new (Err (Corrupt id)) = mask_spoiled old here id ≡ true
Knows here old new (Err Overflow) = (store : Store) → Holds store here → mask_overflow old store ≡ true
Knows here old new (Err NoMemory) = Unit {0}
