-- What the steps of a run keep, whatever they answer, what they have come to, and why they stop.
use Rattle.std.specs.Prelude.{◌≡◌, ◌<◌, ◌≤◌, ◌+◌, ◌++◌, ◌⊎◌, ◌∷◌, ℕ, Bool, true, false, List, [], Option, None, Some, IfSome, All, length, slice_index_or}
use Rattle.std.specs.List.Sorted.{SwapsInRange}
use Rattle.scan_segments.specs.Source.{SourceState, Store}
use Rattle.scan_splits.specs.Arrivals.{Arrivals}
use Rattle.scan_splits.specs.Wanted.{no_repeats}
use Rattle.scan_drive.specs.Accounts.{AllServed, RoundKeeps, RunEnds, RunKeeps, RunsOut}
use Rattle.scan_drive.specs.Actives.{AllOk, groups_left}
use Rattle.scan_drive.specs.Asks.{EachLinkedBut}
use Rattle.scan_drive.specs.Before.{InOrder, SoundInOrder, StopsBefore}
use Rattle.scan_drive.specs.Budgets.{BudgetData, IsBudget}
use Rattle.scan_drive.specs.Chunks.{given, HasRow, IsCause, IsDeliverFault, KeepsFiles, KeepsRows}
use Rattle.scan_drive.specs.Desks.{Waiters}
use Rattle.scan_drive.specs.Drives.{DesksAgree, EachLinked, SlotsKeep, BringsFileNearer, NoneOf, IsIdle}
use Rattle.scan_drive.specs.Drivings.{IsKeptIn, PollsEnd, WasAdmitted}
use Rattle.scan_drive.specs.Ends.{Stops, limit_in, gives_first}
use Rattle.scan_drive.specs.Files.{Part, Told, AllTell, answer}
use Rattle.scan_drive.specs.Filling.{Fills, OpensBy}
use Rattle.scan_drive.specs.Forward.{LinePolls}
use Rattle.scan_drive.specs.Grants.{AreGiven, IsGivenFront}
use Rattle.scan_drive.specs.Grounds.{At, IsGround, EndsGrounded, KeepsGrounds, PolledStops, RoundGrounds, SettlesBy, SlotsFollow, SourceFollows}
use Rattle.scan_drive.specs.Ledger.{FilesKeepReport, KeepsReport}
use Rattle.scan_drive.specs.Line.{exchanged, IsAnswered}
use Rattle.scan_drive.specs.Links.{KeepsTold, StaysLinked}
use Rattle.scan_drive.specs.Losses.{FilesBalance, FilesKeepCounts, HaltsStay, KeepsCounts}
use Rattle.scan_drive.specs.Lost.{EachFollows, Follows}
use Rattle.scan_drive.specs.Measures.{Advances, EachAdvances, slots_steps}
use Rattle.scan_drive.specs.Moves.{AllWait, EachMoves, HoldsWhy, KeepsPhases, KeepsRest, KeepsSources, tells}
use Rattle.scan_drive.specs.Openers.{OpenerState, as_number}
use Rattle.scan_drive.specs.Phases.{unopened, phase_at, rest, AllRowsOk, PhasesOk}
use Rattle.scan_drive.specs.Polls.{OpenersRest, PollsFit, PollsGrow, PollsOn, PollsStand}
use Rattle.scan_drive.specs.Rounds.{IsLawful, IsEnd, IsReady, AreAsking, AskNamed, Stands, Sound, ServesFront, ServesAll, steps_left}
use Rattle.scan_drive.specs.Runnings.{RoundIs, RunIs, StopsIn, StopsRun}
use Rattle.scan_drive.specs.Slots.{slot_at, is_reading, SlotKeeps}
use Rattle.scan_drive.specs.Sources.{NoId}
use Rattle.scan_drive.specs.Splits.{SplitState, Event}
use Rattle.scan_drive.specs.Trades.{CacheAgrees, FilesTrade, Trusts}
use Rattle.scan_drive.specs.Traffic.{asked_keys, ended_since, CacheMoves, IsReport, LooksUpFirst, PutsWhatItAsked}
use Rattle.scan_drive.specs.Turns.{IsTally, SeatsOn, TurnsWait}
use Rattle.scan_drive.specs.Wants.{Cache, OnlyLoses}
use Rattle.scan_drive.specs.declared.active.Active.{Active}
use Rattle.scan_drive.specs.declared.delivery.Chunk.{Chunk}
use Rattle.scan_drive.specs.declared.delivery.DriveFault.{DriveFault}
use Rattle.scan_drive.specs.declared.files.ScanFile.{ScanFile}
use Rattle.scan_drive.specs.declared.phase.Phase.{Phase}
use Rattle.scan_drive.specs.declared.phase.Phase.TheVariants as phase
use Rattle.scan_drive.specs.declared.phase.Tally.{Tally}
use Rattle.scan_drive.specs.declared.report.ScanReport.{ScanReport}
use Rattle.scan_drive.specs.declared.round.Drive.{Drive}
use Rattle.scan_drive.specs.declared.rounds.Round.{Round}
use Rattle.scan_drive.specs.declared.rounds.Round.TheVariants as round
use Rattle.scan_drive.specs.declared.settling.RoundFault.{RoundFault}
use Rattle.scan_drive.specs.declared.slot.Slot.{Slot}

module _ {W I R : Type 0} (split : W → SplitState I) (comes : W → Arrivals → Store → Event → Type 0) (items : R → List I) where
  -- live requests of a source of this name were polled
  pub record PollsSource (name : List ℕ) (s t : SourceState) (c d : Cache) (desk desk' : Waiters) (old new : List (Slot W R)) : Type 0 where
    -- the counts agree
    pub counts : KeepsCounts name s t c d new
    -- slots keep the rows of their splits
    pub keeps : KeepsTold split comes items s.holds old new
    -- the splits wait at the desk as before, but for what has come
    pub links : StaysLinked desk desk' old new
    -- what has come, and what has failed, is of requests that were open
    pub follows : SourceFollows s t old new
    -- no split is further from its end
    pub advances : EachAdvances split old new

  -- all that one split wants was wanted of a source of this name
  pub record WantsAll (name : List ℕ) (s t : SourceState) (c d : Cache) (report report' : ScanReport) (old new : Slot W R) : Type 0 where
    -- the ledger and the report agree
    pub balance : KeepsReport name s t c d report report'
    -- the slot keeps the rows of its split
    pub keeps : (p : Part I) (store : Store) → s.holds ≡ Some store → Trusts name store c → SlotKeeps split comes items p store old new
    -- the split is no further from its end
    pub advances : Advances split old new
    -- the cache has at most lost segments
    pub loses : OnlyLoses c d
    -- what has come the cache kept
    pub follows : Follows (IsKeptIn c name) NoId old new

  -- rows were given
  pub record GivesRows (old new : Active W R) (chunks chunks' : List (Chunk R)) : Type 0 where
    -- the active splits stay as their files have them
    pub ok : (tale : List (Told I)) → AllOk split comes items tale old → AllOk split comes items tale new
    -- chunks have rows
    pub rows : KeepsRows items chunks chunks'
    -- and are of files that have active splits
    pub files : KeepsFiles old.slots.items chunks chunks'

  -- splits were polled and their rows given: these places wait for other segments now
  pub record GivesOut (ordered : Bool) (asking : List ℕ) (old new : Active W R) (left : Option ℕ) (budget : Option BudgetData) : Type 0 where
    -- the splits stand in their slots
    pub ready : (n : ℕ) → IsReady n old → IsReady n new
    -- those at these places wait for all that they want, each place once
    pub asks : AreAsking asking new.slots.items
    pub once : no_repeats asking ≡ true
    -- the others wait at the desks of their files
    pub links : (desks : List Waiters) → EachLinked desks old.slots.items → EachLinkedBut asking desks new.slots.items
    -- what they want their files name
    pub named : (tale : List (Told I)) → AllOk split comes items tale old → AskNamed tale asking new.slots.items
    -- splits that were given up stay so
    pub halts : HaltsStay old.slots.items new.slots.items
    -- nothing has come to the splits
    pub follows : EachFollows NoneOf NoneOf old.slots.items new.slots.items
    -- the split whose turn it is waits, and less is left to be done, or all is in its turn as before
    pub steps : TurnsWait new × ((slots_steps split new.slots.items < slots_steps split old.slots.items)
        ⊎ ((slots_steps split new.slots.items ≤ slots_steps split old.slots.items) × (new.turns.items ≡ old.turns.items)))
    -- the budget grants what is left of the limit
    pub grants : IsBudget ordered left budget

  -- why rows are not given
  pub record GivesNot (ordered : Bool) (old new : Active W R) (chunks chunks' : List (Chunk R)) (left left' : Option ℕ) (e : DriveFault) : Type 0 where
    -- in order, it is the turn of a split that was given up
    pub fault : ordered ≡ true → IsDeliverFault split comes items old new chunks chunks' left left' e
    -- for a cause
    pub cause : (tale : List (Told I)) → AllOk split comes items tale old → IsCause tale e
    -- at which split
    pub stops : PolledStops old.slots.items e

module _ {W I R F : Type 0} (split : W → SplitState I) (comes : W → Arrivals → Store → Event → Type 0) (items : R → List I) where
  -- splits became active, in the order of their files up to one
  pub record Activates (first last : ℕ) (tally tally' : Tally) (active active' : Active W R) (old new : List (Phase W F)) : Type 0 where
    -- what active splits have to give and what is left of the files are the groups that they were
    pub left : (tale : List (Told I)) → length tale ≡ length old →
        groups_left split comes items tale active' ++ rest split comes tale new ≡ groups_left split comes items tale active ++ rest split comes tale old
    -- files and active splits stay as they are told
    pub ok : (tale : List (Told I)) → length tale ≡ length old → PhasesOk split comes tale old → AllOk split comes items tale active
        → PhasesOk split comes tale new × AllOk split comes items tale active'
    -- the rows of files are counted
    pub counted : (tale : List (Told I)) → length tale ≡ length old → PhasesOk split comes tale old → AllOk split comes items tale active
        → IsTally tale tally → IsTally tale tally'
    -- files that are not read were not before
    pub held : (k : ℕ) (why : F) → phase_at new k ≡ phase.Held why → phase_at old k ≡ phase.Held why
    -- splits were seated behind those that were active
    pub seats : SeatsOn split first last active active' old new
    -- of the files that are counted
    pub fills : Fills first last tally tally' old new active.slots.items active'.slots.items

  -- all is given, or the limit is met
  pub record SettlesAll (old new : Drive W R F) : Type 0 where
    -- what was given is the answer
    pub done : (tale : List (Told I)) → AllTell tale → Sound split comes items tale old
        → AreGiven old.ordered (limit_in split comes items old) (answer tale) (given items new.chunks.items)
    -- without a limit no split waits, and none was given up
    pub out : limit_in split comes items old ≡ None → RunsOut old.active.slots.items
    -- nor has a file any left
    pub spent : old.left ≡ None → length old.phases.items ≤ old.first

  -- what was given is a front of the answer, of chunks with rows
  pub record GivesFront (tale : List (Told I)) (old new : Drive W R F) : Type 0 where
    pub rows : KeepsRows items old.chunks.items new.chunks.items
    pub front : AllTell tale → Sound split comes items tale old
        → IsGivenFront old.ordered (limit_in split comes items old) (answer tale) (given items new.chunks.items)

  -- why a drive ends without all rows
  pub record SettlesNot (old new : Drive W R F) (e : RoundFault F) : Type 0 where
    -- a split was given up for a cause, or all before a file that is not read is given
    pub fault : (tale : List (Told I)) → Sound split comes items tale old → Stops split comes items tale old new e
    -- in order, all before the fault was given
    pub before : old.ordered ≡ true → (tale : List (Told I)) → SoundInOrder split comes items tale old
        → StopsBefore items (limit_in split comes items old) tale e
    -- at which split, or at which file
    pub settles : SettlesBy old e
    -- what was given before, where that is known
    pub gave : gives_first old.ordered e ≡ true → (tale : List (Told I)) → GivesFront tale old new

module _ {O S W R I F : Type 0} (state : O → OpenerState I) (polls : O → O → Type 0) (refuses : O → O → F → Type 0) (admits : O → O → List W → Type 0)
    (source : S → SourceState) (split : W → SplitState I) (comes : W → Arrivals → Store → Event → Type 0) (items : R → List I) where
  -- the openers of the files from one place to another were polled once, and all else rests
  pub record OpensKeep (first last : ℕ) (files files' : List (ScanFile O S)) (phases : List (Phase W F)) : Type 0 where
    -- openers were polled as they may be
    pub moves : EachMoves state polls source (Unit {0}) files files'
    -- sources are as they were
    pub sources : KeepsSources files files'
    -- so are the openers of other files
    pub others : OpenersRest first last files files'
    -- no count of polls has fallen
    pub grows : PollsGrow state files files'
    -- openers were polled no more often than they may be
    pub fit : (start : List (ScanFile O S)) → PollsStand state start files phases → PollsFit state start files'

  -- whether one of them has answered, and what that opens
  pub record OpensFiles (answers : Bool) (first last : ℕ) (files files' : List (ScanFile O S)) (old new : List (Phase W F)) : Type 0 where
    -- a file is open for an answer
    pub opened : unopened new + as_number answers ≤ unopened old
    -- without one nothing is, and each opener has put it off
    pub same : answers ≡ false → new ≡ old
    pub waits : answers ≡ false → AllWait state first last files files' new
    -- each file has the groups that it had, and its splits are as it has them
    pub left : KeepsRest split comes (tells state source files) old new
    pub ok : KeepsPhases split comes (tells state source files) old new
    -- why files are not read
    pub why : HoldsWhy state polls refuses files files' old new
    -- openers were polled as often as the phases of their files say
    pub polled : (start : List (ScanFile O S)) → PollsStand state start files old → PollsStand state start files' new
    -- the splits of a file are those that its opener gave
    pub splits : OpensBy state polls admits files files' old new
    -- files have as many rows as their openers tell
    pub rows : AllRowsOk (tells state source files) old → AllRowsOk (tells state source files) new

  -- openers were polled and splits have become active, and this says whether one of the openers has answered
  pub record BringsIn (answers : Bool) (files files' : List (ScanFile O S)) (old new : Drive W R F) : Type 0 where
    -- the state of the drive, whatever is told of the files
    pub stands : Stands (length files) new
    -- the splits wait at the desks at which they waited
    pub links : (desks : List Waiters) → EachLinked desks old.active.slots.items → EachLinked desks new.active.slots.items
    -- those that were given up stay so
    pub halts : HaltsStay old.active.slots.items new.active.slots.items
    -- the state stands for the answer, as before
    pub sound : Sound split comes items (tells state source files) old → Sound split comes items (tells state source files) new
    -- why files are not read
    pub why : HoldsWhy state polls refuses files files' old.phases.items new.phases.items
    -- what the drive has is traced back as before
    pub grounds : (c : Cache) → KeepsGrounds state polls admits source files files' c c old new
    -- a file is open for each answer
    pub opened : unopened new.phases.items + as_number answers ≤ unopened old.phases.items
    -- without an answer less is left to be done, or no split is active and none will be
    pub steps : answers ≡ false →
        (steps_left state source split files' new < steps_left state source split files old)
        ⊎ ((steps_left state source split files' new ≤ steps_left state source split files old)
        × (new.active.turns.items ≡ [] → IsEnd new.first new.tally new.phases.items))
    -- active splits stand in the order of their files
    pub order : InOrder old → InOrder new
    -- openers were polled as often as the phases of their files say
    pub polled : (start : List (ScanFile O S)) → PollsStand state start files old.phases.items → PollsStand state start files' new.phases.items

module _ {O S W R I : Type 0} (source : S → SourceState) (split : W → SplitState I) (comes : W → Arrivals → Store → Event → Type 0) (items : R → List I) where
  -- all that splits want was wanted
  pub record WantsSlots (files files' : List (ScanFile O S)) (c d : Cache) (report report' : ScanReport) (old new : List (Slot W R)) : Type 0 where
    -- the ledger and the report agree
    pub balance : FilesKeepReport source files files' c d report report'
    -- slots keep the rows of their splits
    pub keeps : CacheAgrees source files c → SlotsKeep source split comes items files old new
    -- no split is further from its end
    pub advances : EachAdvances split old new
    -- the cache has at most lost segments
    pub loses : OnlyLoses c d
    -- what has come is of requests that were open, or the cache kept it
    pub follows : SlotsFollow source c files files' old new

  -- the live requests of the files from one place to another were polled
  pub record FetchesFiles (first last : ℕ) (files files' : List (ScanFile O S)) (desks desks' : List Waiters) (c d : Cache)
      (old new : List (Slot W R)) : Type 0 where
    -- the counts agree
    pub counts : FilesKeepCounts source files files' c d new
    -- slots keep the rows of their splits
    pub keeps : SlotsKeep source split comes items files old new
    -- the splits wait at the desks of their files
    pub links : EachLinked desks' new
    -- what has come, and what has failed, is of requests that were open
    pub follows : SlotsFollow source c files files' old new
    -- no split is further from its end
    pub advances : EachAdvances split old new
    -- each split that waited for a request of these files is nearer, or its source has put off an answer
    pub nearer : (k : ℕ) → first ≤ k → k < last → BringsFileNearer source split k files files' desks old new

  -- segments were wanted, and live requests polled
  pub record Serves (turns : List ℕ) (first : ℕ) (files files' : List (ScanFile O S)) (desks : List Waiters) (c d : Cache)
      (report report' : ScanReport) (old new : List (Slot W R)) : Type 0 where
    -- the ledger and the counts agree
    pub balance : FilesBalance source files files' c d report report' new
    -- slots keep the rows of their splits
    pub keeps : CacheAgrees source files c → SlotsKeep source split comes items files old new
    -- no split is further from its end
    pub advances : EachAdvances split old new
    -- the split whose turn it is, is nearer, or its source has put off an answer
    pub nearer : (place : ℕ) (later : List ℕ) → turns ≡ place ∷ later → is_reading (slot_at old place).stage ≡ true
        → ServesFront source split place files files' old new
    -- so it is with each split in order
    pub serves : ServesAll source split turns first files files' old new
    -- the splits wait at the desks of their files
    pub links : EachLinked desks new
    -- what has come, and what has failed, is of requests that were open
    pub follows : SlotsFollow source c files files' old new

module _ {O S W R I F : Type 0} (state : O → OpenerState I) (polls : O → O → Type 0) (source : S → SourceState)
    (split : W → SplitState I) (comes : W → Arrivals → Store → Event → Type 0) (items : R → List I) where
  -- what rounds keep from step to step, whatever they answer, where this holds at first
  pub record RoundsKeep (If : Type 0) (workers : ℕ) (files files' : List (ScanFile O S)) (desks : List Waiters) (c d : Cache)
      (old : Drive W R F) : Type 0 where
    -- the live requests of each file's source are those of its desk
    pub agree : DesksAgree source files' desks
    -- openers and sources were called as they may be: where the drive was sound, sources were asked only for what files name
    pub moves : EachMoves state polls source (If × Sound split comes items (tells state source files) old) files files'
    -- the cache has what the stores have, and the ledger is kept
    pub trades : FilesTrade source files files' c d
    -- openers were polled no more often and no earlier than they may be
    pub polled : PollsOn state items old.ordered workers (limit_in split comes items old) (tells state source files)
        (If × SoundInOrder split comes items (tells state source files) old) old.phases.items files files'

  -- the same of a run since its start, said of the files as the exchanges leave them
  pub record LineKeeps (workers : ℕ) (files : List (ScanFile O S)) (log : List (ℕ × ℕ)) (files' : List (ScanFile O S))
      (desks : List Waiters) (c d : Cache) (old : Drive W R F) : Type 0 where
    -- places of files were exchanged
    pub places : SwapsInRange (length files) log
    -- in order none was
    pub order : old.ordered ≡ true → log ≡ []
    -- the live requests of each file's source are those of its desk
    pub agree : DesksAgree source files' desks
    -- openers and sources were called as they may be
    pub moves : EachMoves state polls source (CacheAgrees source (exchanged log files) c) (exchanged log files) files'
    -- the cache has what the stores have, and the ledger is kept
    pub trades : FilesTrade source (exchanged log files) files' c d
    -- openers were polled no more often and no earlier than they may be
    pub polled : LinePolls state source items old.ordered workers old.left c files log files'

module _ {O S W R I F : Type 0} (state : O → OpenerState I) (polls : O → O → Type 0) (refuses : O → O → F → Type 0) (admits : O → O → List W → Type 0)
    (source : S → SourceState) (split : W → SplitState I) (comes : W → Arrivals → Store → Event → Type 0) (items : R → List I) where
  -- what a round has come to
  pub record RoundComes (r : Round) (files files' : List (ScanFile O S)) (desks : List Waiters) (c d : Cache) (old new : Drive W R F) : Type 0 where
    -- the drive goes on, or what was given is the answer
    pub comes_to : RoundIs state polls refuses source split comes items r files files' desks c old new
    -- the ledger and the counts agree
    pub balance : RoundKeeps source files files' c d old new r
    -- where all is given without a limit, no split waits, and none was given up
    pub out : r ≡ round.Done → limit_in split comes items old ≡ None → AllServed desks old.active.slots.items
    -- chunks have rows
    pub rows : KeepsRows items old.chunks.items new.chunks.items
    -- what the drive has is traced back as before
    pub grounds : RoundGrounds state polls admits source r files files' c d old new

  -- why a round ends without all rows
  pub record RoundStops (files files' : List (ScanFile O S)) (c : Cache) (old new : Drive W R F) (e : RoundFault F) : Type 0 where
    -- for a cause, or at a file that is not read
    pub fault : StopsIn state polls refuses source split comes items files files' old new e
    -- in order, all before the fault was given
    pub before : old.ordered ≡ true → SoundInOrder split comes items (tells state source files) old
        → StopsBefore items (limit_in split comes items old) (tells state source files) e
    -- what was done to the file
    pub ends : EndsGrounded state polls admits source files files' c old e
    -- what was given before, where that is known
    pub gave : gives_first old.ordered e ≡ true → GivesFront split comes items (tells state source files) old new

  -- what rounds have come to that others follow, or that are the last
  pub record WaitComes (r : Round) (files files' : List (ScanFile O S)) (desks : List Waiters) (c d : Cache) (old new : Drive W R F) : Type 0 where
    -- the drive goes on, or what was given is the answer
    pub comes_to : RunIs state polls refuses source split comes items r files files' desks c old new
    -- the ledger and the counts agree
    pub balance : RunKeeps source (limit_in split comes items old) files files' desks c d old new r
    -- chunks have rows
    pub rows : KeepsRows items old.chunks.items new.chunks.items
    -- what the drive has is traced back as before
    pub grounds : RoundGrounds state polls admits source r files files' c d old new

  -- why rounds end without all rows
  pub record WaitStops (files files' : List (ScanFile O S)) (c : Cache) (old new : Drive W R F) (e : RoundFault F) : Type 0 where
    -- for a cause, or at a file that is not read
    pub fault : StopsRun state polls refuses source split comes items files files' c old new e
    -- in order, all before the fault was given
    pub before : old.ordered ≡ true → CacheAgrees source files c → SoundInOrder split comes items (tells state source files) old
        → StopsBefore items (limit_in split comes items old) (tells state source files) e
    -- what was done to the file
    pub ends : EndsGrounded state polls admits source files files' c old e

  -- what a run has come to
  pub record LineEnds (files : List (ScanFile O S)) (log : List (ℕ × ℕ)) (files' : List (ScanFile O S)) (desks : List Waiters)
      (c d : Cache) (old new : Drive W R F) : Type 0 where
    -- the ledger and the counts agree
    pub balance : RunEnds source (limit_in split comes items old) (exchanged log files) files' desks c d old new
    -- chunks have rows
    pub rows : All (HasRow items) new.chunks.items
    -- over lawful objects what was given is the answer
    pub done : IsLawful state source (exchanged log files) c
        → AreGiven old.ordered old.left (answer (tells state source (exchanged log files))) (given items new.chunks.items)
    -- without a limit each file was admitted
    pub opened : old.left ≡ None → (k : ℕ) → k < length files → At (exchanged log files) files' (WasAdmitted state polls admits) k

  -- why a run ends without all rows
  pub record LineStops (files : List (ScanFile O S)) (log : List (ℕ × ℕ)) (files' : List (ScanFile O S)) (c : Cache)
      (old new : Drive W R F) (e : RoundFault F) : Type 0 where
    -- for a cause, or at a file that is not read
    pub fault : StopsRun state polls refuses source split comes items (exchanged log files) files' c old new e
    -- in order, over lawful objects, all before the fault was given
    pub before : old.ordered ≡ true → IsLawful state source files c → StopsBefore items old.left (tells state source files) e
    -- what was done to the file
    pub ends : IsGround state polls admits source (exchanged log files) files' c e

module _ {O S W R I : Type 0} (state : O → OpenerState I) (polls : O → O → Type 0) (admits : O → O → List W → Type 0)
    (source : S → SourceState) (items : R → List I) (limit : Option ℕ) (ordered : Bool) where
  -- what one call over all files keeps, whatever it answers
  pub record DriveKeeps (workers : ℕ) (files files' : List (ScanFile O S)) (c d : Cache) : Type 0 where
    -- no request is live
    pub idle : All (IsIdle source) files'
    -- openers and sources were called as they may be: over lawful objects sources were asked only for what files name
    pub moves : EachMoves state polls source (IsLawful state source files c) files files'
    -- the cache has what the stores have, and the ledger is kept
    pub trades : FilesTrade source files files' c d
    -- what the cache has kept
    pub cache : CacheMoves source files files' c d
    -- each segment was looked up before it was asked for
    pub lookups : IfSome (ended_since c d) (LooksUpFirst source files files')
    -- openers were polled no more often and no earlier than they may be
    pub polled : PollsEnd state source items limit ordered workers c files files'

  -- what it gives, and how it counts what it asked for
  pub record DriveGives (files files' : List (ScanFile O S)) (c d : Cache) (chunks : List (Chunk R)) (said : ScanReport) : Type 0 where
    -- over lawful objects what was given is the answer
    pub answer : IsLawful state source files c → IsAnswered ordered limit (tells state source files) (given items chunks)
    -- chunks have rows
    pub some : All (HasRow items) chunks
    -- without a limit each file was admitted
    pub opened : limit ≡ None → (k : ℕ) (f : ScanFile O S) → k < length files →
        WasAdmitted state polls admits (slice_index_or files k f) (slice_index_or files' k f)
    -- the report counts what was asked and what the cache had
    pub report : IsReport (length (asked_keys source files files')) (ended_since c d) said
    -- without a limit what was asked was put
    pub puts : limit ≡ None → IfSome (ended_since c d) (PutsWhatItAsked source files files' c d)
