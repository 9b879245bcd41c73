-- An opener in memory, as an opener.
use Rattle.std.specs.Prelude.{◌≡◌, ℕ, Option, None, Some}
use Rattle.std.specs.declared.alloc.Global.{Global}
use Rattle.std.specs.declared.rc.Rc.{Rc}
use Rattle.scan_segments.specs.Script.{ScriptState, turns_left, has_number}
use Rattle.scan_segments.specs.Faults.{one_more}
use Rattle.scan_segments.specs.declared.script.Outcome.{Outcome}
use Rattle.scan_segments.specs.declared.script.Outcome.TheVariants.{Goes, Waits, Fails}
use Rattle.scan_layout.specs.Layout.{Layout}
use Rattle.scan_opener.specs.Opener.{Given, skip, layout_of, OpenerState}
use Rattle.scan_opener.specs.declared.opener.Opening.{Opening}
use Rattle.scan_opener.specs.declared.opener.Opening.TheVariants.{Pending, Opened, Skipped, Failed, NoMemory}

-- what an opener of this layout gives
abbrev pub given_of : Option (Rc Layout Global) → Given
given_of None = skip
given_of (Some l) = layout_of l.value

-- it tells what it gives, and can fail where a call of its script does
abbrev pub opener_state : Option (Rc Layout Global) → ScriptState → ℕ → ℕ → OpenerState
opener_state gives script faults polls = record {
  gives = Some (given_of gives);
  faults = faults;
  polled = polls;
  turns = turns_left script;
  can_fail = has_number script.failing;
}

-- what a poll may give that neither fails nor is pending: want of memory where there is a layout
abbrev pub IsGiving : Given → Opening → Type 0
IsGiving skip r = r ≡ Skipped
IsGiving (layout_of l) (Opened layout) = layout.value ≡ l
IsGiving (layout_of l) NoMemory = Unit {0}
IsGiving (layout_of l) _ = ⊥

-- what a poll with this outcome may answer
abbrev pub IsAnswerBy : Outcome → Given → Opening → Type 0
IsAnswerBy Fails g r = r ≡ Failed
IsAnswerBy Waits g r = r ≡ Pending
IsAnswerBy Goes g r = IsGiving g r

-- the count of faults after such an answer
abbrev pub faults_after : Opening → ℕ → ℕ
faults_after Failed n = one_more n
faults_after _ n = n
