-- What is read where nothing lacks.
use Rattle.std.proofs.Common.{◌≡◌, ℕ, ◌==◌, Bool, true, false, ◌||◌, ◌&&◌, List, [], ◌∷◌, Option, Some, None, Err, is_none, refl, ap, subst, ◌∙◌, sym}
use Rattle.std.specs.Prelude.{option_and_then}
use Rattle.std.proofs.lemmas.Bool.{eqb-true}
use Rattle.scan_spelling.specs.Spelling.{decode}
use Rattle.scan_spelling.specs.Places.{Place, decoded}
use Rattle.scan_plans.specs.PlanTree.{PlanTree}
use Rattle.scan_plans.specs.Came.{Came, arrived}
use Rattle.scan_plans.specs.Wants.{wanted, names_id, lacks, Complete, NoneBad, spoils, is_bad}
use Rattle.scan_plans.specs.Reads.{Reads, fails, AllDecode}
use Rattle.scan_plans.specs.Given.{Gives}
use Rattle.scan_plans.specs.declared.fault.ReadFault.{ReadFault}
use Rattle.scan_plans.specs.declared.fault.ReadFault.TheVariants.{Corrupt, Overflow, NoMemory}

-- what has arrived and is no good there
bad_here : (p : Place) (here : Came) (id : ℕ) → (p.id == id) ≡ true → is_none (here id) ≡ false → is_none (decoded (arrived here) p) ≡ true → is_bad p (here id) ≡ true
bad_here p here id e n d = by (here id) refl n
  where
    same : p.id ≡ id
    same = eqb-true p.id id e

    by : (o : Option (Option (List ℕ))) → here id ≡ o → is_none o ≡ false → is_bad p o ≡ true
    by None w n = absurd cc
    by (Some None) w n = refl
    by (Some (Some bytes)) w n = let z : arrived here p.id ≡ Some bytes = ap (arrived here) same ∙ ap (option_and_then (λ b. b)) w in sym (ap (λ o. is_none (option_and_then (decode p.spelling p.dtype p.rows) o)) z) ∙ d

left_none : (a b c : Bool) → ((a || b) && c) ≡ false → a ≡ true → c ≡ false
left_none true b c h e = h
left_none false b c h e = absurd cc

rest_none : (a b c : Bool) → ((a || b) && c) ≡ false → (b && c) ≡ false
rest_none true true c h = h
rest_none true false c h = refl
rest_none false b c h = h

pub fails_spoils : (places : List Place) (here : Came) (id : ℕ) → lacks places here id ≡ false → fails places (arrived here) id ≡ true → spoils places here id ≡ true
fails_spoils [] here id c h = absurd cc
fails_spoils (p ∷ ps) here id c h = first (p.id == id) (is_none (decoded (arrived here) p)) refl refl h (fails_spoils ps here id (rest_none (p.id == id) (names_id id ps) (is_none (here id)) c))
  where
    or_true : (b : Bool) → (b || true) ≡ true
    or_true true = refl
    or_true false = refl

    first : (a d : Bool) → (p.id == id) ≡ a → is_none (decoded (arrived here) p) ≡ d → ((a && d) || fails ps (arrived here) id) ≡ true → (fails ps (arrived here) id ≡ true → spoils ps here id ≡ true) → (((p.id == id) && is_bad p (here id)) || spoils ps here id) ≡ true
    first true true e f h later = let n = left_none (p.id == id) (names_id id ps) (is_none (here id)) c e in rw (e, bad_here p here id e n f) refl
    first true false e f h later = rw (later h) (or_true ((p.id == id) && is_bad p (here id)))
    first false d e f h later = rw (later h) (or_true ((p.id == id) && is_bad p (here id)))

-- ---- what decodes is not bad
good_here : (p : Place) (here : Came) → is_none (decoded (arrived here) p) ≡ false → is_bad p (here p.id) ≡ false
good_here p here n = by (here p.id) refl
  where
    by : (o : Option (Option (List ℕ))) → here p.id ≡ o → is_bad p o ≡ false
    by None w = refl
    by (Some None) w =
        let z : arrived here p.id ≡ None = ap (option_and_then (λ b. b)) w in
        let y : true ≡ false = sym (ap (λ o. is_none (option_and_then (decode p.spelling p.dtype p.rows) o)) z) ∙ n in absurd cc
    by (Some (Some bytes)) w = let z : arrived here p.id ≡ Some bytes = ap (option_and_then (λ b. b)) w in sym (ap (λ o. is_none (option_and_then (decode p.spelling p.dtype p.rows) o)) z) ∙ n

or_left : (a b : Bool) → (a || b) ≡ false → a ≡ false
or_left true b h = h
or_left false b h = refl

or_right : (a b : Bool) → (a || b) ≡ false → b ≡ false
or_right true b h = absurd cc
or_right false b h = h

pub decodes_good : (places : List Place) (here : Came) → AllDecode places (arrived here) → NoneBad places here
decodes_good places here h = λ id. each places id (h id)
  where
    one : (p : Place) (id : ℕ) (b : Bool) → (p.id == id) ≡ b → (b && is_none (decoded (arrived here) p)) ≡ false → (b && is_bad p (here id)) ≡ false
    one p id false e n = refl
    one p id true e n = subst (λ (j : ℕ). is_bad p (here j) ≡ false) (eqb-true p.id id e) (good_here p here n)

    each : (ps : List Place) (id : ℕ) → fails ps (arrived here) id ≡ false → spoils ps here id ≡ false
    each [] id n = refl
    each (p ∷ ps) id n =
        let own = one p id (p.id == id) refl (or_left ((p.id == id) && is_none (decoded (arrived here) p)) (fails ps (arrived here) id) n) in
        rw own (each ps id (or_right ((p.id == id) && is_none (decoded (arrived here) p)) (fails ps (arrived here) id) n))

-- ---- what lacks

pub gives_fault : (p : PlanTree) (here : Came) (is : List ℕ) (f : ReadFault) → Complete (wanted p here is) here → Reads p here is (Err f) → Gives p here is (Err f)
gives_fault p here is (Corrupt id) c h = h c
gives_fault p here is Overflow c h = (c, h)
gives_fault p here is NoMemory c h = tt
