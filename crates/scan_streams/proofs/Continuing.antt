-- Steps of a reading, one after the other.
use Rattle.std.proofs.Common.{◌≡◌, List, [], ◌∷◌, length, map, Bool, true, Option, refl, ap, ◌∙◌, subst, arith}
use Rattle.std.specs.Prelude.{◌==◌}
use Rattle.std.proofs.lemmas.Bool.Decides.{nat_tests}
use Rattle.scan_segments.specs.Source.{Store, SourceState}
use Rattle.scan_values.specs.DataType.{DataType}
use Rattle.scan_values.specs.Marked.{Marked}
use Rattle.scan_values.specs.Val.{Val, marked}
use Rattle.scan_streams.specs.Advances.{Advances}
use Rattle.scan_streams.specs.Desks.{Agree}
use Rattle.scan_streams.specs.Looks.{MayAsk, Halts, step_items, step_dtype}
use Rattle.scan_streams.specs.Readings.{slot_count, splits_of, Standing}
use Rattle.scan_streams.specs.Sources.{SourceMoves}
use Rattle.scan_streams.specs.Splits.{SplitData, Goes, AllOf}
use Rattle.scan_streams.specs.declared.fault.Halt.{Halt}
use Rattle.scan_streams.specs.declared.reading.Reading.{Reading}
use Rattle.scan_streams.specs.declared.reading.Step.{Step}
use Rattle.scan_streams.proofs.Asking.{moves_then, moves_weaker}
use Rattle.scan_streams.proofs.Going.{goes_then}
use Rattle.scan_streams.proofs.Parting.{ask_back, halts_back}

-- what is true after some steps that gave nothing
pub record Continues (old now : Reading) (s t : SourceState) : Type 0 where
  pub stands : Standing now
  pub agree : Agree t.live now.desk
  pub ordered : now.ordered ≡ old.ordered
  pub goes : Goes old.ordered s.holds [] (splits_of old) (splits_of now)
  pub moves : SourceMoves (MayAsk s.holds (splits_of old)) s t
  pub begun : slot_count now ≡ slot_count old

module _ (old now : Reading) (s t : SourceState) (h : Continues old now s t) where
  pub goes_on : (given : List Marked) (next : List SplitData) → Goes now.ordered t.holds given (splits_of now) next → Goes old.ordered s.holds given (splits_of old) next
  goes_on given next g =
      goes_then s.holds old.ordered given (splits_of old) (splits_of now) next h.goes
      (subst (λ (z : Bool × Option Store). Goes z.0 z.1 given (splits_of now) next) (λ i. (h.ordered i, h.moves.holds i)) g)

  pub moves_on : (u : SourceState) → SourceMoves (MayAsk t.holds (splits_of now)) t u → SourceMoves (MayAsk s.holds (splits_of old)) s u
  moves_on u m =
      moves_then (MayAsk s.holds (splits_of old)) s t u h.moves
      (moves_weaker (MayAsk t.holds (splits_of now)) (MayAsk s.holds (splits_of old)) t u (λ id a. ask_back old.ordered s.holds [] (splits_of old) (splits_of now) h.goes id (subst (λ o. MayAsk o (splits_of now) id) h.moves.holds a)) m)

  pub halts_on : (u : SourceState) (x : Halt) → Halts t u (splits_of now) x → Halts s u (splits_of old) x
  halts_on u x k = halts_back old.ordered (MayAsk s.holds (splits_of old)) [] (splits_of old) (splits_of now) s t u x h.goes h.moves k

  -- a step more that gives nothing
  pub continues_on : (next : Reading) (u : SourceState) → Standing next → Agree u.live next.desk → next.ordered ≡ now.ordered → Goes now.ordered t.holds [] (splits_of now) (splits_of next) → SourceMoves (MayAsk t.holds (splits_of now)) t u → slot_count next ≡ slot_count now → Continues old next s u
  continues_on next u stands agree ordered goes moves begun = record { stands = stands; agree = agree; ordered = ordered ∙ h.ordered; goes = goes_on [] (splits_of next) goes; moves = moves_on u moves; begun = begun ∙ h.begun }

  -- as many are read at once
  pub step_begun : (x : Step) (next : Reading) (u : SourceState) → Advances x now next t u → slot_count next ≡ slot_count old
  step_begun x next u a = a.begun ∙ h.begun

  -- a step that is known
  pub step_goes : (x y : Step) (next : Reading) (u : SourceState) → x ≡ y → Advances x now next t u → Goes old.ordered s.holds (step_items y) (splits_of old) (splits_of next)
  step_goes x y next u e a = goes_on (step_items y) (splits_of next) (subst (λ z. Goes now.ordered t.holds (step_items z) (splits_of now) (splits_of next)) e a.goes)

  pub step_type : (x y : Step) (next : Reading) (u : SourceState) → x ≡ y → Advances x now next t u → (d : DataType) → AllOf d (splits_of old) → step_dtype d y
  step_type x y next u e a d all = subst (step_dtype d) e (a.dtype d (h.goes.dtype d all))

  pub step_continues : (x y : Step) (next : Reading) (u : SourceState) → x ≡ y → step_items y ≡ [] → Advances x now next t u → Agree u.live next.desk → next.ordered ≡ now.ordered → SourceMoves (MayAsk t.holds (splits_of now)) t u → Continues old next s u
  step_continues x y next u e none a agree ordered moves = continues_on next u a.stands agree ordered (subst (λ given. Goes now.ordered t.holds given (splits_of now) (splits_of next)) (ap step_items e ∙ none) a.goes) moves a.begun

-- an array without rows gives nothing
pub no_rows : (items : List Val) → (length items == 0) ≡ true → map marked items ≡ []
no_rows [] e = refl
no_rows (v ∷ items) e = let n : length (v ∷ items) ≡ 0 = grind (arith, nat_tests) in absurd (omega (arith, n))
