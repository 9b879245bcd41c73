-- What a seat and its server keep from turn to turn, and what pieces of work come to.
use Rattle.std.proofs.Common.{◌≡◌, List, [], ◌∷◌, ◌++◌, true, false, sym, subst}
use Rattle.std.specs.Prelude.{Option, None, Some, MatchOption}
use Rattle.std.specs.List.{AllZip}
use Rattle.std.proofs.lemmas.List.Elements.{AllZip-push}
use Rattle.crossbeam_queue.specs.Passes.{view}
use Rattle.scan_pool.specs.Boxes.{knows, IsKept}
use Rattle.scan_pool.specs.Seats.{IsOut}
use Rattle.scan_pool.specs.declared.mail.Knows.{Knows}
use Rattle.scan_pool.specs.declared.mail.Mail.{Mail}
use Rattle.scan_pool.specs.declared.seat.Seat.{Seat}

pub first_of : {A B : Type 0} → A × B → A
first_of p = p.0

pub second_of : {A B : Type 0} → A × B → B
second_of p = p.1

module _ {T : Type 0} where
  -- what a pass knows of work that is out
  pub out_view : (b : T) (s : Seat T) → IsOut b s → view s.pass ≡ knows true false (Some b) None
  out_view b s out = second_of out

  pub some_out_view : (s : Seat T) → ((b : T) × IsOut b s) → (b : T) × (view s.pass ≡ knows true false (Some b) None)
  some_out_view s (b, out) = (b, out_view b s out)

module _ {T : Type 0} (done : T → T → Type 0) where
  -- mail that comes back unchanged may be put in as before
  pub kept_on : (m m' : Mail T) (v v' : Knows T) → IsKept done m v → m' ≡ m → v' ≡ v → IsKept done m' v'
  kept_on m m' v v' kept same is = subst (λ (p : Mail T × Knows T). IsKept done p.0 p.1) (λ i. (sym same i, sym is i)) kept

  -- one piece more is done
  pub one_more_done : (old pre mid new : List T) (x y : T) → old ≡ pre ++ x ∷ [] → AllZip done pre mid → done x y → new ≡ mid ++ y ∷ [] → AllZip done old new
  one_more_done old pre mid new x y was all one is = subst (λ (p : List T × List T). AllZip done p.0 p.1) (λ i. (sym was i, sym is i)) (AllZip-push done pre mid x y all one)

  -- a piece is done whether it was sent or not
  pub done_either : (unsent : Option T) (work w : T) (Out : T → Type 0) (Idle : Type 0) → MatchOption unsent (Out work) (λ x. (x ≡ work) × Idle)
      → MatchOption unsent ((b : T) → Out b → done b w) (λ x. done x w) → done work w
  done_either None work w Out Idle out by = by work out
  done_either (Some x) work w Out Idle is by = subst (λ z. done z w) (first_of is) by
