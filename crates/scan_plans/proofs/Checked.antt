-- What has arrived, looked at part by part.
use Rattle.std.proofs.Common.{◌≡◌, ℕ, ◌+◌, Bool, true, false, ◌||◌, List, [], ◌∷◌, ◌++◌, length, Option, Some, None, Result, Ok, Err, refl, ap, subst, ◌∙◌, sym}
use Rattle.std.specs.Prelude.{if◌then◌else◌}
use Rattle.std.specs.List.{list_any}
use Rattle.scan_values.specs.DataType.{DataType}
use Rattle.scan_spelling.specs.Places.{Place}
use Rattle.scan_plans.specs.PlanTree.{PlanTree, lists, lengths, valid, PlanTrees, no_plans, plan}
use Rattle.scan_plans.specs.Came.{Came, arrived}
use Rattle.scan_plans.specs.Checking.{ChecksPlaces, ChecksPlan, ChecksAll, KnownOf}
use Rattle.scan_plans.specs.Lists.{rows_on, element_rows, IsSpan}
use Rattle.scan_plans.specs.Meaning.{true_rows}
use Rattle.scan_plans.specs.OffsetReads.{WantsRows, NextOf}
use Rattle.scan_plans.specs.OffsetsData.{OffsetsData, offset_places}
use Rattle.scan_plans.specs.Wants.{leaf_wanted, offsets_wanted, knows_elements, wanted, all_wanted, NoneBad, spoils, offsets_spoiled, spoiled, any_spoiled}
use Rattle.scan_plans.specs.declared.fault.ReadFault.{ReadFault}
use Rattle.scan_plans.specs.declared.fault.ReadFault.TheVariants.{Corrupt, Overflow, NoMemory}
use Rattle.scan_plans.specs.declared.lists.Span.{Span}
use Rattle.scan_plans.proofs.Collecting.{spoils_append}
use Rattle.scan_plans.proofs.LeafWalk.{no_rows_wanted}

or_true : (b : Bool) → (b || true) ≡ true
or_true true = refl
or_true false = refl

-- ---- one segment

-- the place of a segment that is looked at
pub moved_checks : {A : Type 0} (p q : Place) (bits : List Bool) (here : Came) (r : Result A ReadFault) → p ≡ q → ChecksPlaces (if list_any (λ b. b) bits then p ∷ [] else []) here r → ChecksPlaces (if list_any (λ b. b) bits then q ∷ [] else []) here r
moved_checks p q bits here r e h = subst (λ (x : Place). ChecksPlaces (if list_any (λ b. b) bits then x ∷ [] else []) here r) e h

-- ---- segment by segment: what is bad of the rest is what is bad of all
abbrev pub Checked : List Place → List Place → Came → Type 0
Checked rest all here = (id : ℕ) → spoils rest here id ≡ spoils all here id

pub checked_start : (rest all : List Place) (here : Came) → rest ≡ all → Checked rest all here
checked_start rest all here e = λ id. ap (λ ps. spoils ps here id) e

pub checked_next : (rest ws more all : List Place) (here : Came) → rest ≡ ws ++ more → Checked rest all here → NoneBad ws here → Checked more all here
checked_next rest ws more all here e k g = λ id. sym (ap (λ ps. spoils ps here id) e ∙ spoils_append ws more here id ∙ ap (λ b. b || spoils more here id) (g id)) ∙ k id

pub checked_end : (rest all : List Place) (here : Came) → rest ≡ [] → Checked rest all here → NoneBad all here
checked_end rest all here e k = λ id. sym (k id) ∙ ap (λ ps. spoils ps here id) e

pub checked_fault : (A B : Type 0) (rest ws more all : List Place) (here : Came) (f : ReadFault) → rest ≡ ws ++ more → Checked rest all here → ChecksPlaces {A = A} ws here (Err f) → ChecksPlaces {A = B} all here (Err f)
checked_fault A B rest ws more all here (Corrupt id) e k c = sym (k id) ∙ ap (λ ps. spoils ps here id) e ∙ spoils_append ws more here id ∙ ap (λ b. b || spoils more here id) c
checked_fault A B rest ws more all here Overflow e k c = c
checked_fault A B rest ws more all here NoMemory e k c = tt

-- ---- offsets
pub offsets_checked : {A : Type 0} (o : OffsetsData) (here : Came) (is : List ℕ) (i : ℕ) (mask : List Bool) (r : Result A ReadFault) → IsSpan is i mask → ChecksPlaces (leaf_wanted 0 (offset_places o) (rows_on i (length mask + 1))) here r → ChecksPlan (lengths o) here is r
offsets_checked o here is i mask (Ok x) s h = λ id. ap (λ (js : List ℕ). spoils (leaf_wanted 0 (offset_places o) js) here id) s.offsets ∙ h id
offsets_checked o here is i mask (Err (Corrupt id)) s h = let z : spoils (offsets_wanted o is) here id ≡ true = ap (λ (js : List ℕ). spoils (leaf_wanted 0 (offset_places o) js) here id) s.offsets ∙ h in rw z refl
offsets_checked o here is i mask (Err Overflow) s h = h
offsets_checked o here is i mask (Err NoMemory) s h = tt

pub nothing_checked : (o : OffsetsData) (here : Came) (is : List ℕ) → is ≡ [] → NoneBad (offsets_wanted o is) here
nothing_checked o here is e = λ id. ap (λ ps. spoils ps here id) (ap (offsets_wanted o) e ∙ no_rows_wanted 0 (offset_places o))

pub known_of : (old new : List ℕ) (o : OffsetsData) (here : Came) (is : List ℕ) (r : Result (Option Span) ReadFault) → NextOf old new o here is r → KnownOf o here is r
known_of old new o here is (Ok None) h = h.1
known_of old new o here is (Ok (Some s)) h = h.1
known_of old new o here is (Err (Corrupt id)) h = h
known_of old new o here is (Err Overflow) h = h
known_of old new o here is (Err NoMemory) h = tt

-- ---- and then elements
pub offsets_stop : (A B : Type 0) (d : DataType) (p : PlanTree) (o : OffsetsData) (here : Came) (is : List ℕ) (f : ReadFault) → ChecksPlan {A = A} (lengths o) here is (Err f) → ChecksPlan {A = B} (lists d p o) here is (Err f)
offsets_stop A B d p o here is (Corrupt id) h = rw h refl
offsets_stop A B d p o here is Overflow h = h
offsets_stop A B d p o here is NoMemory h = tt

pub known_stop : (B : Type 0) (d : DataType) (p : PlanTree) (o : OffsetsData) (here : Came) (is : List ℕ) (f : ReadFault) → KnownOf o here is (Err f) → ChecksPlan {A = B} (lists d p o) here is (Err f)
known_stop B d p o here is (Corrupt id) h = rw h refl
known_stop B d p o here is Overflow h = h
known_stop B d p o here is NoMemory h = tt

lists_bad : (d : DataType) (p : PlanTree) (o : OffsetsData) (here : Came) (is : List ℕ) (id : ℕ) (b : Bool) → NoneBad (offsets_wanted o is) here → knows_elements o here is ≡ b
    → spoils (wanted (lists d p o) here is) here id ≡ spoils (if b then wanted p here (element_rows o (arrived here) is) else []) here id
lists_bad d p o here is id b g k =
    let rest = wanted p here (element_rows o (arrived here) is) in
    spoils_append (offsets_wanted o is) (if knows_elements o here is then rest else []) here id ∙ ap (λ c. c || spoils (if knows_elements o here is then rest else []) here id) (g id) ∙ ap (λ c. spoils (if c then rest else []) here id) k

pub none_more : (d : DataType) (p : PlanTree) (o : OffsetsData) (here : Came) (is : List ℕ) → NoneBad (offsets_wanted o is) here → knows_elements o here is ≡ false → NoneBad (wanted (lists d p o) here is) here
none_more d p o here is g k = λ id. lists_bad d p o here is id false g k

pub then_more : {A : Type 0} (d : DataType) (p : PlanTree) (o : OffsetsData) (here : Came) (is : List ℕ) (s : Span) (r : Result A ReadFault) → NoneBad (offsets_wanted o is) here → WantsRows o here is s → ChecksPlan p here (true_rows s.first s.mask) r → ChecksPlan (lists d p o) here is r
then_more d p o here is s (Ok x) g w h = λ id. lists_bad d p o here is id true g w.known ∙ ap (λ (js : List ℕ). spoils (wanted p here js) here id) w.rows ∙ h id
then_more d p o here is s (Err (Corrupt id)) g w h =
    let z : spoiled p here (element_rows o (arrived here) is) id ≡ true = ap (λ (js : List ℕ). spoiled p here js id) w.rows ∙ h in
    ap (λ b. offsets_spoiled o here is id || (if b then spoiled p here (element_rows o (arrived here) is) id else false)) w.known ∙ ap (λ b. offsets_spoiled o here is id || b) z ∙ or_true (offsets_spoiled o here is id)
then_more d p o here is s (Err Overflow) g w h = h
then_more d p o here is s (Err NoMemory) g w h = tt

-- ---- values under a validity
pub validity_stop : (A B : Type 0) (p v : PlanTree) (here : Came) (is : List ℕ) (f : ReadFault) → ChecksPlan {A = A} v here is (Err f) → ChecksPlan {A = B} (valid p v) here is (Err f)
validity_stop A B p v here is (Corrupt id) h = rw h refl
validity_stop A B p v here is Overflow h = h
validity_stop A B p v here is NoMemory h = tt

pub values_checked : {A : Type 0} (p v : PlanTree) (here : Came) (is : List ℕ) (r : Result A ReadFault) → NoneBad (wanted v here is) here → ChecksPlan p here is r → ChecksPlan (valid p v) here is r
values_checked p v here is (Ok x) g h = λ id. spoils_append (wanted v here is) (wanted p here is) here id ∙ ap (λ b. b || spoils (wanted p here is) here id) (g id) ∙ h id
values_checked p v here is (Err (Corrupt id)) g h = rw h (or_true (spoiled v here is id))
values_checked p v here is (Err Overflow) g h = h
values_checked p v here is (Err NoMemory) g h = tt

-- ---- plan by plan
pub record Inspected (rest all : PlanTrees) (here : Came) (is : List ℕ) : Type 0 where
  pub same : (id : ℕ) → spoils (all_wanted rest here is) here id ≡ spoils (all_wanted all here is) here id
  pub bad : (id : ℕ) → any_spoiled rest here is id ≡ true → any_spoiled all here is id ≡ true

pub inspected_start : (rest all : PlanTrees) (here : Came) (is : List ℕ) → rest ≡ all → Inspected rest all here is
inspected_start rest all here is e = record { same = λ id. ap (λ (ps : PlanTrees). spoils (all_wanted ps here is) here id) e; bad = λ id h. ap (λ (ps : PlanTrees). any_spoiled ps here is id) (sym e) ∙ h }

pub inspected_next : (rest : PlanTrees) (p : PlanTree) (more all : PlanTrees) (here : Came) (is : List ℕ) → rest ≡ plan p more → Inspected rest all here is → NoneBad (wanted p here is) here → Inspected more all here is
inspected_next rest p more all here is e k g = record {
  same = λ id. sym (ap (λ (ps : PlanTrees). spoils (all_wanted ps here is) here id) e ∙ spoils_append (wanted p here is) (all_wanted more here is) here id ∙ ap (λ b. b || spoils (all_wanted more here is) here id) (g id)) ∙ k.same id;
  bad = λ id h. k.bad id (ap (λ (ps : PlanTrees). any_spoiled ps here is id) e ∙ rw h (or_true (spoiled p here is id)));
}

pub inspected_end : (rest all : PlanTrees) (here : Came) (is : List ℕ) → rest ≡ no_plans → Inspected rest all here is → NoneBad (all_wanted all here is) here
inspected_end rest all here is e k = λ id. sym (k.same id) ∙ ap (λ (ps : PlanTrees). spoils (all_wanted ps here is) here id) e

pub inspected_fault : (A B : Type 0) (rest : PlanTrees) (p : PlanTree) (more all : PlanTrees) (here : Came) (is : List ℕ) (f : ReadFault) → rest ≡ plan p more → Inspected rest all here is → ChecksPlan {A = A} p here is (Err f) → ChecksAll {A = B} all here is (Err f)
inspected_fault A B rest p more all here is (Corrupt id) e k c = k.bad id (ap (λ (ps : PlanTrees). any_spoiled ps here is id) e ∙ rw c refl)
inspected_fault A B rest p more all here is Overflow e k c = c
inspected_fault A B rest p more all here is NoMemory e k c = tt
