-- Ids that are collected part by part.
use Rattle.std.proofs.Common.{◌≡◌, ℕ, ◌==◌, ◌-◌, ◌≤◌, arith, Bool, true, false, ◌||◌, ◌&&◌, List, [], ◌++◌, Ok, Err, is_none, refl, ap, ◌∙◌, sym}
use Rattle.std.specs.Prelude.{nat_le}
use Rattle.std.proofs.lemmas.Bool.Decides.{nat_tests}
use Rattle.std.proofs.lemmas.List.Folds.{list_any-append}
use Rattle.scan_values.specs.Selections.{is_among}
use Rattle.scan_spelling.specs.Places.{Place}
use Rattle.scan_plans.specs.Came.{Came}
use Rattle.scan_plans.specs.Wants.{names_id, lacks, spoils, is_bad}
use Rattle.scan_plans.specs.Reads.{Collects}
use Rattle.scan_plans.specs.declared.fault.ReadFault.{ReadFault}
use Rattle.scan_plans.specs.declared.fault.ReadFault.TheVariants.{Corrupt, Overflow, NoMemory}

-- what is collected of all, with what lacks of the rest, is what lacks of all; and the rest is among all
pub record Keeps (old now : List ℕ) (rest all : List Place) (here : Came) : Type 0 where
  pub lacking : (id : ℕ) → (is_among now id || lacks rest here id) ≡ (is_among old id || lacks all here id)
  pub spoiled : (id : ℕ) → spoils rest here id ≡ true → spoils all here id ≡ true

pub keeps_start : (old : List ℕ) (rest all : List Place) (here : Came) → rest ≡ all → Keeps old old rest all here
keeps_start old rest all here e = record { lacking = λ id. ap (λ ps. is_among old id || lacks ps here id) e; spoiled = λ id h. ap (λ ps. spoils ps here id) (sym e) ∙ h }

and_or : (a b c : Bool) → ((a || b) && c) ≡ ((a && c) || (b && c))
and_or true b true = refl
and_or true true false = refl
and_or true false false = refl
and_or false b c = refl

or_assoc : (a b c : Bool) → ((a || b) || c) ≡ (a || (b || c))
or_assoc true b c = refl
or_assoc false b c = refl

or_false : (b : Bool) → (b || false) ≡ b
or_false true = refl
or_false false = refl

or_true : (b : Bool) → (b || true) ≡ true
or_true true = refl
or_true false = refl

pub lacks_append : (ps qs : List Place) (here : Came) (id : ℕ) → lacks (ps ++ qs) here id ≡ (lacks ps here id || lacks qs here id)
lacks_append ps qs here id = ap (λ b. b && is_none (here id)) (list_any-append (λ (p : Place). p.id == id) ps qs) ∙ and_or (names_id id ps) (names_id id qs) (is_none (here id))

pub spoils_append : (ps qs : List Place) (here : Came) (id : ℕ) → spoils (ps ++ qs) here id ≡ (spoils ps here id || spoils qs here id)
spoils_append ps qs here id = list_any-append (λ (p : Place). (p.id == id) && is_bad p (here id)) ps qs

pub keeps_next : {A : Type 0} (old now new : List ℕ) (rest ws more all : List Place) (here : Came) (x : A) → rest ≡ ws ++ more → Keeps old now rest all here → Collects now new ws here (Ok x) → Keeps old new more all here
keeps_next old now new rest ws more all here x e k c = record {
  lacking = λ id. ap (λ b. b || lacks more here id) (c id) ∙ or_assoc (is_among now id) (lacks ws here id) (lacks more here id) ∙ ap (λ b. is_among now id || b) (sym (lacks_append ws more here id)) ∙ ap (λ ps. is_among now id || lacks ps here id) (sym e) ∙ k.lacking id;
  spoiled = λ id h. k.spoiled id (ap (λ ps. spoils ps here id) e ∙ spoils_append ws more here id ∙ rw h (or_true (spoils ws here id)));
}

pub keeps_end : {A : Type 0} (old now : List ℕ) (rest all : List Place) (here : Came) (x : A) → rest ≡ [] → Keeps old now rest all here → Collects old now all here (Ok x)
keeps_end old now rest all here x e k = λ id. sym (or_false (is_among now id)) ∙ ap (λ ps. is_among now id || lacks ps here id) (sym e) ∙ k.lacking id

pub keeps_fault : (A B : Type 0) (old now new last : List ℕ) (rest ws more all : List Place) (here : Came) (f : ReadFault) → rest ≡ ws ++ more → Keeps old now rest all here → Collects {A = A} now new ws here (Err f) → Collects {A = B} old last all here (Err f)
keeps_fault A B old now new last rest ws more all here (Corrupt id) e k c = k.spoiled id (ap (λ ps. spoils ps here id) e ∙ spoils_append ws more here id ∙ rw c refl)
keeps_fault A B old now new last rest ws more all here Overflow e k c = c
keeps_fault A B old now new last rest ws more all here NoMemory e k c = tt

-- a test that rows end before a start
pub past_start : (first n from start : ℕ) → nat_le n (from - first) ≡ true → from ≡ start → n ≤ start - first
past_start first n from start t e = let h : n ≤ from - first = grind (arith, nat_tests, t) in omega (arith, h, e)
