-- What polls of the opener of a file keep, and what they have shown.
use Rattle.std.proofs.Common.{◌≡◌, ℕ, ◌≤◌, List, [], ◌∷◌, refl, sym, ◌∙◌, arith, subst}
use Rattle.std.specs.Prelude.{IfSome}
use Rattle.scan_segments.specs.Faults.{Rose}
use Rattle.scan_layout.specs.declared.fault.LayoutFault.{LayoutFault}
use Rattle.scan_opener.specs.Opener.{OpenerState, OpenerFailed, PolledOnce}
use Rattle.scan_drive.specs.Files.{Item}
use Rattle.scan_drive.specs.Openers as drive
use Rattle.scan_drive.specs.Openers.{Chain, Opens, IsRefused, IsAdmitted}
use Rattle.scan_file.specs.FileAsks.{FileAsk}
use Rattle.scan_file.specs.Openings.{file_state, GivesFault, GivesSplits, Admits, Refuses}
use Rattle.scan_file.specs.declared.fault.FileFault.{FileFault}
use Rattle.scan_file.specs.declared.fault.FileFault.TheVariants as file
use Rattle.scan_file.specs.declared.split.FileSplit.{FileSplit}

-- an opener after some polls
pub record Keeps (old new : OpenerState) : Type 0 where
  pub gives : new.gives ≡ old.gives
  pub faults : old.faults ≤ new.faults
  pub turns : new.turns ≤ old.turns
  pub polled : old.polled ≤ new.polled
  pub can_fail : new.can_fail ≡ old.can_fail

keeps-self : (s : OpenerState) → Keeps s s
keeps-self s = record { gives = refl; faults = omega arith; turns = omega arith; polled = omega arith; can_fail = refl }

keeps-then : (s t u : OpenerState) → PolledOnce s t → Keeps t u → Keeps s u
keeps-then s t u p k = record {
  gives = k.gives ∙ p.gives;
  faults = let a = p.faults in let b = k.faults in omega (arith, a, b);
  turns = let a = p.turns in let b = k.turns in omega (arith, a, b);
  polled = let a = p.polled_grows in let b = k.polled in omega (arith, a, b);
  can_fail = k.can_fail ∙ p.can_fail;
}

rose-wider : (a b c d : ℕ) → a ≤ b → Rose b c → c ≤ d → Rose a d
rose-wider a b c d l r m = omega (arith, l, r, m)

-- a failure in the midst of polls
failed-wider : (s t u v : OpenerState) → Keeps s t → OpenerFailed t u → Keeps u v → OpenerFailed s v
failed-wider s t u v k f l = (rose-wider s.faults t.faults u.faults v.faults k.faults f.0 l.faults, sym k.can_fail ∙ f.1)

module _ {O : Type 0} (opener : O → OpenerState) (a : FileAsk) where
  -- what a poll does
  abbrev pub Polls : O → O → Type 0
  Polls old new = PolledOnce (opener old) (opener new)

  -- what the opener is to a scan
  abbrev pub asked_state : O → drive.OpenerState Item
  asked_state o = file_state a (opener o)

  -- why a poll says that the file is not read
  abbrev pub refused_by : O → O → FileFault → Type 0
  refused_by old new f = Refuses a (opener old) (opener new) f

  -- what a poll shows that gives splits
  abbrev pub admitted_by : O → O → List FileSplit → Type 0
  admitted_by old new ws = Admits a (opener old) ws

  chain-keeps : (old : O) (os : List O) (new : O) → Chain Polls old os new → Keeps (opener old) (opener new)
  chain-keeps old [] new e = subst (λ z. Keeps (opener old) (opener z)) (sym e) (keeps-self (opener old))
  chain-keeps old (o ∷ os) new h = keeps-then (opener old) (opener o) (opener new) h.0 (chain-keeps o os new h.1)

  pub opens_keep : (old new : O) → Opens asked_state Polls old new → Keeps (opener old) (opener new)
  opens_keep old new h = chain-keeps old h.polled.between new h.polled.chain

  -- ---- one of the polls refused the file
  module _ (old new : O) where
    pub opener_failed : IsRefused asked_state Polls refused_by old new file.Opener → OpenerFailed (opener old) (opener new)
    opener_failed r =
        failed-wider (opener old) (opener r.before) (opener r.after) (opener new) (opens_keep old r.before r.opens) r.said (opens_keep r.after new r.later)

    told-fault : (f : FileFault) (r : IsRefused asked_state Polls refused_by old new f) → IfSome (opener r.before).gives (GivesFault a f) → IfSome (opener old).gives (GivesFault a f)
    told-fault f r said = subst (λ o. IfSome o (GivesFault a f)) (opens_keep old r.before r.opens).gives said

    pub other_given : IsRefused asked_state Polls refused_by old new file.DTypeMismatch → IfSome (opener old).gives (GivesFault a file.DTypeMismatch)
    other_given r = told-fault file.DTypeMismatch r r.said

    pub ill_given : (f : LayoutFault) → IsRefused asked_state Polls refused_by old new (file.Layout f) → IfSome (opener old).gives (GivesFault a (file.Layout f))
    ill_given f r = told-fault (file.Layout f) r r.said

    pub past_given : IsRefused asked_state Polls refused_by old new file.RowRangePast → IfSome (opener old).gives (GivesFault a file.RowRangePast)
    past_given r = told-fault file.RowRangePast r r.said

    -- ---- one of them admitted it
    pub splits_given : (ws : List FileSplit) → IsAdmitted asked_state Polls admitted_by old new ws → IfSome (opener old).gives (GivesSplits a ws)
    splits_given ws r = subst (λ o. IfSome o (GivesSplits a ws)) (opens_keep old r.before r.opens).gives r.said
