-- Why one call over all files ends without all rows.
use Rattle.std.proofs.Common.{◌≡◌, Bool, true, false, ℕ, zero, suc, ◌+◌, ◌<◌, ◌≤◌, List, [], ◌∷◌, length, take, get_or, Option, inl, inr, refl, sym, ◌∙◌, subst, arith}
use Rattle.std.specs.Prelude.{◌⊎◌, All, IsSome}
use Rattle.std.proofs.lemmas.List.{length-map}
use Rattle.scan_segments.specs.Source.{SourceState, Store}
use Rattle.scan_splits.specs.Arrivals.{Arrivals}
use Rattle.scan_drive.specs.Before.{StopsBefore}
use Rattle.scan_drive.specs.Drivings.{AreTooMany, StopsDrive}
use Rattle.scan_drive.specs.Ends.{IsHeldIn}
use Rattle.scan_drive.specs.Files.{Part, Told, told_at, untold, AllGive, IfTold}
use Rattle.scan_drive.specs.Grounds.{ArePast, IsGround, SettlesBy}
use Rattle.scan_drive.specs.Moves.{tell, tells}
use Rattle.scan_drive.specs.Openers.{OpenerState, IsRefused}
use Rattle.scan_drive.specs.Phases.{phase_at}
use Rattle.scan_drive.specs.Rounds.{IsLawful, Sound}
use Rattle.scan_drive.specs.Runnings.{StopsRun}
use Rattle.scan_drive.specs.Splits.{SplitState, Event}
use Rattle.scan_drive.specs.Turns.{rows_of}
use Rattle.scan_drive.specs.Wants.{Cache}
use Rattle.scan_drive.specs.declared.delivery.DriveFault.TheVariants as fault
use Rattle.scan_drive.specs.declared.files.ScanFile.{ScanFile}
use Rattle.scan_drive.specs.declared.phase.Phase.TheVariants as phase
use Rattle.scan_drive.specs.declared.round.Drive.{Drive}
use Rattle.scan_drive.specs.declared.settling.RoundFault.{RoundFault}
use Rattle.scan_drive.specs.declared.settling.RoundFault.TheVariants as why
use Rattle.scan_drive.proofs.Moving.{get_or-map}

module _ {W R F : Type 0} where
  pub held_by : (d : Drive W R F) (e : RoundFault F) → SettlesBy d e → IsHeldIn d.phases.items e
  held_by d (why.Split x) s = tt
  held_by d (why.TooManyRows k) s = tt
  held_by d (why.Refused k f) s = s.1

module _ {O S W I R F : Type 0} (state : O → OpenerState I) (polls : O → O → Type 0) (refuses : O → O → F → Type 0) (admits : O → O → List W → Type 0)
    (source : S → SourceState) (split : W → SplitState I) (comes : W → Arrivals → Store → Event → Type 0) (items : R → List I) where
  -- the first files have no more rows than all
  rows_less : (n : ℕ) (tale : List (Told I)) → rows_of (take n tale) ≤ rows_of tale
  rows_less zero tale = omega arith
  rows_less (suc n) [] = omega arith
  rows_less (suc n) (t ∷ tale) = let r = rows_less n tale in omega (arith, r)

  -- openers that tell are told
  all_give : (files : List (ScanFile O S)) → All (λ f. IsSome (state f.opener).gives) files → AllGive (tells state source files)
  all_give [] h k d lt = absurd (omega arith)
  all_give (f ∷ files) h k d lt =
      let n : length (tells state source (f ∷ files)) ≡ length (f ∷ files) = length-map (f ∷ files) (tell state source) in
      let in_list : k < length (f ∷ files) = omega (arith, n, lt) in
      subst (λ (t : Told I). IsSome t.part) (sym (get_or-map state polls source (Unit {0}) (f ∷ files) k d f in_list)) (h k f in_list)

  module _ (limit : Option ℕ) (ordered : Bool) (c : Cache) (a b e : List (ScanFile O S)) (d0 d1 : Drive W R F) (shut : (k : ℕ) → phase_at d0.phases.items k ≡ phase.Unopened) (closed : (k : ℕ) (f : ScanFile O S) → (get_or e k f).opener ≡ (get_or b k f).opener)
      (sound : Sound split comes items (tells state source a) d0) where
    -- what is told of a file at its place
    told_of : (P : Part I → Store → Type 0) (k : ℕ) → k < length a → IfTold (told_at (tells state source a) k) P → (f : ScanFile O S) → IfTold (tell state source (get_or a k f)) P
    told_of P k lt h f = subst (λ (t : Told I). IfTold t P) (get_or-map state polls source (Unit {0}) a k untold f lt) h

    -- one of the polls of the opener said why
    refused : (k : ℕ) (f : F) (x : RoundFault F) → x ≡ why.Refused k f → StopsRun state polls refuses source split comes items a b c d0 d1 x → (g : ScanFile O S) → IsRefused state polls refuses (get_or a k g).opener (get_or e k g).opener f
    refused k f x is run g = go (run.why k f (subst (IsHeldIn run.mid.phases.items) is run.held))
      where
        go : (phase_at d0.phases.items k ≡ phase.Held f) ⊎ ((z : ScanFile O S) → IsRefused state polls refuses (get_or a k z).opener (get_or b k z).opener f) → IsRefused state polls refuses (get_or a k g).opener (get_or e k g).opener f
        go (inl was) = let bad : phase.Unopened ≡ phase.Held f = sym (shut k) ∙ was in absurd cc
        go (inr r) = subst (λ (o : O). IsRefused state polls refuses (get_or a k g).opener o f) (sym (closed k g)) (r g)

    -- the rows of the first files are rows of all files
    many : (o : Bool) (k : ℕ) → ArePast (tells state source a) k → AreTooMany state polls refuses admits source items limit ordered c a e o k
    many true k h = λ all. h (all_give a all)
    many false k h = λ all. (let x = h (all_give a all) in let y = rows_less (k + 1) (tells state source a) in omega (arith, x, y))

    pub stops_drive : (x : RoundFault F) → (ordered ≡ true → IsLawful state source a c → StopsBefore items limit (tells state source a) x) → IsGround state polls admits source a e c x → StopsRun state polls refuses source split comes items a b c d0 d1 x →
        StopsDrive state polls refuses admits source items limit ordered c a e x
    stops_drive (why.Split fault.NoMemory) before ground run = tt
    stops_drive (why.Split (fault.Source k id)) before ground run = record {
      there = ground.there;
      fact = λ f. (let x = ground.fact f in record { failed = x.0; asked = x.1; admitted = x.2 });
      before = before;
    }
    stops_drive (why.Split (fault.Corrupt k id)) before ground run = record {
      there = ground.there;
      fact = λ f. (let x = ground.fact f in record {
        bad = λ h. told_of (λ p store. p.bad store id ≡ true) k ground.there (run.stops h sound) f;
        came = x.0;
        admitted = x.1;
      });
      before = before;
    }
    stops_drive (why.Split (fault.Overflow k)) before ground run = record {
      there = ground;
      fact = λ f h. told_of (λ p store. p.overflow store ≡ true) k ground (run.stops h sound) f;
      before = before;
    }
    stops_drive (why.TooManyRows k) before ground run = (
      record {
        there = ground.0.there;
        fact = λ f. (let x = ground.0.fact f in record { none = x.0; admitted = x.1; rows = x.2 });
        before = before;
      },
      many ordered k ground.1,
    )
    stops_drive (why.Refused k f) before ground run = record {
      there = ground.there;
      fact = λ g. (ground.fact g, refused k f (why.Refused k f) refl run g);
      before = before;
    }
