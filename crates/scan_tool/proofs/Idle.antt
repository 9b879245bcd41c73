-- Sources of files that have no live request.
use Rattle.std.proofs.Common.{◌≡◌, ℕ, List, [], Bool, true, false, cond, nat_eq, eq-eqb, refl, ap, ◌∙◌}
use Rattle.std.specs.Prelude.{IfOk, Option, Result, Ok, Err}
use Rattle.scan_segments.specs.Polled.{IsPolled}
use Rattle.scan_segments.specs.Requests.{Requested, is_live}
use Rattle.scan_segments.specs.Source.{SourceState, none_live, with_live, without_live}
use Rattle.scan_segments.specs.declared.source.Polled.{Polled}
use Rattle.scan_segments.specs.declared.source.Polled.TheVariants as polled
use Rattle.scan_disk.specs.SourceView.{SourceView, TellsCause, state_of}
use Rattle.scan_tool.specs.Answered.{IsAnswer}

pub none_asked : (r : Requested) → r ≡ record { asked = []; live = [] } → is_live r ≡ none_live
none_asked r e = ap is_live e

pub none_begun : (live : ℕ → Bool) (id : ℕ) → live ≡ none_live → live id ≡ false
none_begun live id h = ap (λ (f : ℕ → Bool). f id) h

pub begun : (id : ℕ) (before during : ℕ → Bool) → during ≡ with_live id before → during id ≡ true
begun id before during h = ap (λ (f : ℕ → Bool). f id) h ∙ ap (λ b. cond b true (before id)) (eq-eqb id id refl)

ended_at : (b : Bool) → cond b false (cond b true false) ≡ false
ended_at true = refl
ended_at false = refl

one_ended : (id : ℕ) → without_live id (with_live id none_live) ≡ none_live
one_ended id = λ i k. ended_at (nat_eq k id) i

none_ended : (id : ℕ) (before during after : ℕ → Bool) → before ≡ none_live → during ≡ with_live id before → after ≡ without_live id during → after ≡ none_live
none_ended id before during after b d a = a ∙ (ap (without_live id) (d ∙ ap (with_live id) b) ∙ one_ended id)

-- what a result says where it is one
ok_then : {T E P Q : Type 0} (r : Result T E) → (P → Q) → IfOk r (λ _. P) → IfOk r (λ _. Q)
ok_then (Ok x) f p = f p
ok_then (Err e) f p = tt

module _ {F : Type 0} (bytes : F → Option (List ℕ)) (can_fail : F → Bool) where
  ended : (fits : ℕ → List ℕ → Type 0) (id : ℕ) (before : ℕ → Bool) (during after : SourceView F) (answer : Polled) → before ≡ none_live
      → is_live during.requests ≡ with_live id before → IsPolled fits id (state_of bytes can_fail during) (state_of bytes can_fail after) answer
      → TellsCause bytes can_fail id during after answer → IsAnswer answer → is_live after.requests ≡ none_live
  ended fits id before during after polled.Pending b d p c a = absurd c
  ended fits id before during after (polled.Bytes found) b d p c a = none_ended id before (is_live during.requests) (is_live after.requests) b d p.0.live
  ended fits id before during after polled.Missing b d p c a = none_ended id before (is_live during.requests) (is_live after.requests) b d p.0.live
  ended fits id before during after polled.Failed b d p c a = none_ended id before (is_live during.requests) (is_live after.requests) b d p.0.live
  ended fits id before during after polled.NoMemory b d p c a = absurd a

  -- an answer ends the one request
  pub idle_again : {T E : Type 0} (r : Result T E) (fits : ℕ → List ℕ → Type 0) (id : ℕ) (before : ℕ → Bool) (during after : SourceView F) (answer : Polled) → before ≡ none_live
      → is_live during.requests ≡ with_live id before → IsPolled fits id (state_of bytes can_fail during) (state_of bytes can_fail after) answer
      → TellsCause bytes can_fail id during after answer → IfOk r (λ _. IsAnswer answer) → IfOk r (λ _. is_live after.requests ≡ none_live)
  idle_again r fits id before during after answer b d p c = ok_then r (ended fits id before during after answer b d p c)
