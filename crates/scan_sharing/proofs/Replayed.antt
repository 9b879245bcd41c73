-- A list of events forwards and backwards leaves one table.
use Rattle.std.proofs.Common.{◌≡◌, ℕ, List, [], ◌∷◌, ◌++◌, reverse, is_some, sym, ap, ◌∙◌, refl, subst}
use Rattle.std.proofs.lemmas.List.{reverse-append}
use Rattle.scan_sharing.specs.Sharing.{Table, no_entries, is_held, answer_of, after, May, replay_from, replay, IsLawfulFrom}
use Rattle.scan_sharing.specs.declared.holder.SharedEvent.{SharedEvent}
use Rattle.scan_sharing.specs.Past.{left_by, WasLawful, AreHeld, AreAnswered, AreJoined}
use Rattle.scan_sharing.proofs.Pasts.{held_since, answered_since}
use Rattle.scan_sharing.proofs.Joins.{joined_since}

module _ {A : Type 0} where
  -- the table after a past that began at this one
  abbrev onto : Table A → List (SharedEvent A) → Table A
  onto t [] = t
  onto t (e ∷ es) = after e (onto t es)

  abbrev was_onto : Table A → List (SharedEvent A) → Type 0
  was_onto t [] = Unit {0}
  was_onto t (e ∷ es) = May (onto t es) e × was_onto t es

  onto_snoc : (t : Table A) (es : List (SharedEvent A)) (e : SharedEvent A) → onto t (es ++ e ∷ []) ≡ onto (after e t) es
  onto_snoc t [] e = refl
  onto_snoc t (x ∷ xs) e = ap (after x) (onto_snoc t xs e)

  was_snoc : (t : Table A) (es : List (SharedEvent A)) (e : SharedEvent A) → was_onto (after e t) es → May t e → was_onto t (es ++ e ∷ [])
  was_snoc t [] e w m = (m, tt)
  was_snoc t (x ∷ xs) e w m = (subst (λ (u : Table A). May u x) (sym (onto_snoc t xs e)) w.0, was_snoc t xs e w.1 m)

  backwards : (e : SharedEvent A) (es : List (SharedEvent A)) → reverse (e ∷ es) ≡ reverse es ++ e ∷ []
  backwards e es = reverse-append (e ∷ []) es

  replays_onto : (t : Table A) (es : List (SharedEvent A)) → replay_from t es ≡ onto t (reverse es)
  replays_onto t [] = refl
  replays_onto t (e ∷ es) = replays_onto (after e t) es ∙ sym (onto_snoc t (reverse es) e) ∙ ap (onto t) (sym (backwards e es))

  lawful_onto : (t : Table A) (es : List (SharedEvent A)) → IsLawfulFrom t es → was_onto t (reverse es)
  lawful_onto t [] l = tt
  lawful_onto t (e ∷ es) l = subst (was_onto t) (sym (backwards e es)) (was_snoc t (reverse es) e (lawful_onto (after e t) es l.1) l.0)

  onto_is : (es : List (SharedEvent A)) → onto no_entries es ≡ left_by es
  onto_is [] = refl
  onto_is (e ∷ es) = ap (after e) (onto_is es)

  was_is : (es : List (SharedEvent A)) → was_onto no_entries es → WasLawful es
  was_is [] w = tt
  was_is (e ∷ es) w = (subst (λ (u : Table A). May u e) (onto_is es) w.0, was_is es w.1)

  same : (es : List (SharedEvent A)) (id : ℕ) → replay es id ≡ left_by (reverse es) id
  same es id = ap (λ (t : Table A). t id) (replays_onto no_entries es ∙ onto_is (reverse es))

  pub are_held : (es : List (SharedEvent A)) → AreHeld es
  are_held es id some = held_since (reverse es) id (sym (ap is_some (same es id)) ∙ some)

  pub are_answered : (es : List (SharedEvent A)) → AreAnswered es
  are_answered es id a l is = answered_since (reverse es) id a (was_is (reverse es) (lawful_onto no_entries es l)) (sym (ap answer_of (same es id)) ∙ is)

  pub are_joined : (es : List (SharedEvent A)) → AreJoined es
  are_joined es id n held = joined_since (reverse es) id n (sym (ap (is_held n) (same es id)) ∙ held)
