-- Ids that plans lack, collected plan by plan.
use Rattle.std.proofs.Common.{◌≡◌, ℕ, Bool, true, false, ◌||◌, List, Ok, Err, refl, ap, ◌∙◌, sym}
use Rattle.scan_values.specs.Selections.{is_among}
use Rattle.scan_plans.specs.PlanTree.{PlanTree, PlanTrees, no_plans, plan}
use Rattle.scan_plans.specs.Came.{Came}
use Rattle.scan_plans.specs.Wants.{wanted, all_wanted, lacks, spoiled, any_spoiled}
use Rattle.scan_plans.specs.Reads.{CollectsPlan, CollectsAll}
use Rattle.scan_plans.specs.declared.fault.ReadFault.{ReadFault}
use Rattle.scan_plans.specs.declared.fault.ReadFault.TheVariants.{Corrupt, Overflow, NoMemory}
use Rattle.scan_plans.proofs.Collecting.{lacks_append}

-- what is collected of all plans, with what lacks of the rest, is what lacks of all; and the rest is among all
pub record Gathers (old now : List ℕ) (rest all : PlanTrees) (here : Came) (is : List ℕ) : Type 0 where
  pub lacking : (id : ℕ) → (is_among now id || lacks (all_wanted rest here is) here id) ≡ (is_among old id || lacks (all_wanted all here is) here id)
  pub bad : (id : ℕ) → any_spoiled rest here is id ≡ true → any_spoiled all here is id ≡ true

pub gathers_start : (old : List ℕ) (rest all : PlanTrees) (here : Came) (is : List ℕ) → rest ≡ all → Gathers old old rest all here is
gathers_start old rest all here is e = record { lacking = λ id. ap (λ (ps : PlanTrees). is_among old id || lacks (all_wanted ps here is) here id) e; bad = λ id h. ap (λ (ps : PlanTrees). any_spoiled ps here is id) (sym e) ∙ h }

or_assoc : (a b c : Bool) → ((a || b) || c) ≡ (a || (b || c))
or_assoc true b c = refl
or_assoc false b c = refl

or_false : (b : Bool) → (b || false) ≡ b
or_false true = refl
or_false false = refl

or_true : (b : Bool) → (b || true) ≡ true
or_true true = refl
or_true false = refl

pub gathers_next : {A : Type 0} (old now new : List ℕ) (rest : PlanTrees) (p : PlanTree) (more all : PlanTrees) (here : Came) (is : List ℕ) (x : A) → rest ≡ plan p more → Gathers old now rest all here is → CollectsPlan now new p here is (Ok x) → Gathers old new more all here is
gathers_next old now new rest p more all here is x e k c = record {
  lacking = λ id. ap (λ b. b || lacks (all_wanted more here is) here id) (c id) ∙ or_assoc (is_among now id) (lacks (wanted p here is) here id) (lacks (all_wanted more here is) here id)
      ∙ ap (λ b. is_among now id || b) (sym (lacks_append (wanted p here is) (all_wanted more here is) here id)) ∙ ap (λ (ps : PlanTrees). is_among now id || lacks (all_wanted ps here is) here id) (sym e) ∙ k.lacking id;
  bad = λ id h. k.bad id (ap (λ (ps : PlanTrees). any_spoiled ps here is id) e ∙ rw h (or_true (spoiled p here is id)));
}

pub gathers_end : {A : Type 0} (old now : List ℕ) (rest all : PlanTrees) (here : Came) (is : List ℕ) (x : A) → rest ≡ no_plans → Gathers old now rest all here is → CollectsAll old now all here is (Ok x)
gathers_end old now rest all here is x e k = λ id. sym (or_false (is_among now id)) ∙ ap (λ (ps : PlanTrees). is_among now id || lacks (all_wanted ps here is) here id) (sym e) ∙ k.lacking id

pub gathers_fault : (A B : Type 0) (old now new last : List ℕ) (rest : PlanTrees) (p : PlanTree) (more all : PlanTrees) (here : Came) (is : List ℕ)
    (f : ReadFault) → rest ≡ plan p more → Gathers old now rest all here is → CollectsPlan {A = A} now new p here is (Err f)
    → CollectsAll {A = B} old last all here is (Err f)
gathers_fault A B old now new last rest p more all here is (Corrupt id) e k c = k.bad id (ap (λ (ps : PlanTrees). any_spoiled ps here is id) e ∙ rw c refl)
gathers_fault A B old now new last rest p more all here is Overflow e k c = c
gathers_fault A B old now new last rest p more all here is NoMemory e k c = tt
