-- An opener of a file, as contracts see it.
use Rattle.std.specs.Prelude.{◌≡◌, ◌≢◌, ◌||◌, not, ℕ, List, Bool, Option, None, Some, is_some, option_and_then, Result, Ok, Err, refl}
use Rattle.std.specs.Coded.{Coded, code_by, coded×, coded_ℕ, coded_option}
use Rattle.scan_opener.specs.Opener.{Given, layout_of, OpenerState}
use Rattle.scan_opener.specs.declared.opener.Opening.{Opening}
use Rattle.scan_opener.specs.declared.opener.Opening.TheVariants as opening
use Rattle.scan_disk.specs.Contents.{content_of}
use Rattle.scan_disk.specs.Faults.{fault_code}
use Rattle.scan_disk.specs.Given.{IsGiven}
use Rattle.scan_disk.specs.declared.fault.DiskFault.{DiskFault}
use Rattle.scan_disk.specs.declared.fault.DiskFault.TheVariants as fault
use Rattle.scan_disk.specs.declared.footer.Footer.{Footer}

pub record OpenerView (F : Type 0) : Type 0 where
  pub file : F
  -- why the file was refused last
  pub refused : Option DiskFault
  -- how often it was refused, and how often it was polled, each up to the greatest number that is kept
  pub faults : ℕ
  pub polls : ℕ

abbrev pub opener_code : {F : Type 0} → Coded F → Coded (OpenerView F)
opener_code {F} f = code_by (F × (Option DiskFault × (ℕ × ℕ))) (coded× f (coded× (coded_option fault_code) (coded× coded_ℕ coded_ℕ)))
    (λ o. (o.file, (o.refused, (o.faults, o.polls)))) (λ p. record { file = p.0; refused = p.1.0; faults = p.1.1.0; polls = p.1.1.1 }) (λ _. refl)

-- a whole file gives its layout, and another one nothing
abbrev pub given_by : Result Footer DiskFault → Option Given
given_by (Ok f) = Some (layout_of f.layout)
given_by (Err e) = None

abbrev pub given_in : Option (List ℕ) → Option Given
given_in told = option_and_then (λ bytes. given_by (content_of bytes)) told

module _ {F : Type 0} (bytes : F → Option (List ℕ)) (can_fail : F → Bool) where
  -- it gives the layout of a file that tells and is whole, and fails only where a read can or where that is not so
  abbrev pub opener_state : OpenerView F → OpenerState
  opener_state o = record {
    gives = given_in (bytes o.file);
    faults = o.faults;
    polled = o.polls;
    turns = 0;
    can_fail = can_fail o.file || not (is_some (given_in (bytes o.file)));
  }

  -- a file that is refused has its cause beside it
  abbrev pub TellsCause : OpenerView F → OpenerView F → Opening → Type 0
  TellsCause old new opening.Failed =
      (e : DiskFault) × (new.refused ≡ Some e) × (e ≢ fault.NoMemory) × IsGiven {T = Footer} (bytes old.file) (can_fail old.file) content_of (Err e)
  TellsCause old new opening.Pending = ⊥
  TellsCause old new (opening.Opened layout) = new.refused ≡ old.refused
  TellsCause old new opening.Skipped = ⊥
  TellsCause old new opening.NoMemory = new.refused ≡ old.refused
