-- Requests of a source that end before the next one.
use Rattle.std.proofs.Common.{◌≡◌, ℕ, [], Bool, true, false, cond, nat_eq, eq-eqb, refl, ap, ◌∙◌}
use Rattle.std.specs.Prelude.{IfOk, Result, Ok, Err}
use Rattle.scan_segments.specs.Requests.{Requested, is_live}
use Rattle.scan_segments.specs.Source.{none_live, with_live, without_live}

pub none_asked : (r : Requested) → r ≡ record { asked = []; live = [] } → is_live r ≡ none_live
none_asked r e = ap is_live e

pub none_begun : (live : ℕ → Bool) (id : ℕ) → live ≡ none_live → live id ≡ false
none_begun live id h = ap (λ (f : ℕ → Bool). f id) h

pub begun : (id : ℕ) (before during : ℕ → Bool) → during ≡ with_live id before → during id ≡ true
begun id before during h = ap (λ (f : ℕ → Bool). f id) h ∙ ap (λ b. cond b true (before id)) (eq-eqb id id refl)

ended_at : (b : Bool) → cond b false (cond b true false) ≡ false
ended_at true = refl
ended_at false = refl

one_ended : (id : ℕ) → without_live id (with_live id none_live) ≡ none_live
one_ended id = λ i k. ended_at (nat_eq k id) i

pub none_ended : (id : ℕ) (before during after : ℕ → Bool) → before ≡ none_live → during ≡ with_live id before → after ≡ without_live id during → after ≡ none_live
none_ended id before during after b d a = a ∙ (ap (without_live id) (d ∙ ap (with_live id) b) ∙ one_ended id)

-- what holds whatever is answered
pub if_ok : {T E : Type 0} (r : Result T E) (P : Type 0) → P → IfOk r (λ _. P)
if_ok (Ok x) P p = p
if_ok (Err e) P p = tt
