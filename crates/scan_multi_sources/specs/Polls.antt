-- What a poll of a scan of many files answers.
use Rattle.std.specs.Prelude.{◌≡◌, ◌≢◌, ◌⊎◌, ◌+◌, ◌-◌, ◌*◌, ◌≤◌, ◌<◌, ℕ, zero, suc, Bool, true, false, List, [], ◌∷◌, length, take, Some, None}
use Rattle.std.specs.List.{list_any}
use Rattle.scan_layout.specs.Layout.{Layout}
use Rattle.scan_opener.specs.Opener.{OpenerState}
use Rattle.scan_multi_sources.specs.Children.{is_open}
use Rattle.scan_multi_sources.specs.Files.{SlotData, keeps_failure}
use Rattle.scan_multi_sources.specs.Files as file
use Rattle.scan_multi_sources.specs.MultiScans.{MultiScan, Finds, IsPartition, Passes, begun, delivered_at, given_at, has_room, is_turn, kept_at, refusal}
use Rattle.scan_multi_sources.specs.Numbers.{is_given}
use Rattle.scan_multi_sources.specs.Opens as asks
use Rattle.scan_multi_sources.specs.Opens.{Found, Failed, Waited}
use Rattle.scan_multi_sources.specs.declared.fault.MultiFault.{MultiFault}
use Rattle.scan_multi_sources.specs.declared.fault.MultiFault.TheVariants as fault
use Rattle.scan_multi_sources.specs.declared.scan.PartitionPoll.{PartitionPoll}
use Rattle.scan_multi_sources.specs.declared.scan.PartitionPoll.TheVariants as poll
use Rattle.scan_multi_sources.specs.declared.scan.Step.{Step}
use Rattle.scan_multi_sources.specs.declared.scan.Step.TheVariants.{Next, Answer}

-- ---- answers about a file that is looked at
-- a fault of a file whose layout is there: after want of memory it is kept, to be tried again, else it is delivered
abbrev pub FailsOpened : {O : Type 0} → MultiScan O → MultiScan O → ℕ → ℕ → Layout → MultiFault → Type 0
FailsOpened s new i k l fault.NoMemory = new ≡ kept_at s i k (file.opened l)
FailsOpened s new i k l f = (refusal s k l ≡ Some f) × (new ≡ delivered_at s i)

-- its partition is given, where nothing is wrong with it and its number is to be given; or a fault
abbrev pub GivesOpened : {O : Type 0} → MultiScan O → MultiScan O → ℕ → ℕ → Layout → PartitionPoll → Type 0
GivesOpened s new i k l poll.Pending = ⊥
GivesOpened s new i k l (poll.Partition p) = (refusal s k l ≡ None) × (is_given s.numbers s.delivered ≡ true) × IsPartition s k l p × (new ≡ given_at s i l)
GivesOpened s new i k l poll.End = ⊥
GivesOpened s new i k l (poll.Fault f) = FailsOpened s new i k l f

-- what is answered of a file by what it comes to: in its turn its partition or a fault
abbrev pub Answers : {O : Type 0} → MultiScan O → MultiScan O → ℕ → ℕ → Found → PartitionPoll → Type 0
Answers s new i k asks.waits r = ⊥
Answers s new i k asks.short r = (r ≡ poll.Fault fault.NoMemory) × (new ≡ s)
Answers s new i k asks.skipped r = ⊥
Answers s new i k (asks.found l) r = (is_turn s i ≡ true) × GivesOpened s new i k l r
Answers s new i k asks.fails r = (is_turn s i ≡ true) × (r ≡ poll.Fault (fault.Opener k)) × (new ≡ delivered_at s i)

-- ---- which file is looked at
-- a file that was begun is one that was handed in opened
abbrev pub begins_open : {O : Type 0} → MultiScan O → SlotData → Bool
begins_open s w = is_open s.source.children w.place

-- in an unordered scan no such file stands before an index
abbrev pub NoneBefore : {O : Type 0} → MultiScan O → ℕ → Type 0
NoneBefore s i = s.request.ordered ≡ false → list_any (begins_open s) (take i s.window) ≡ false

-- a poll looks at an index of the files that were begun, or behind the last
pub record LooksAt {O : Type 0} (s : MultiScan O) (i : ℕ) : Type 0 where
  pub within : i ≤ length s.window
  pub before : NoneBefore s i

-- ---- steps without an answer
-- the next file is begun, where fewer than so many are
pub record Begins {O : Type 0} (s new : MultiScan O) : Type 0 where
  pub place : ℕ
  pub rest : List ℕ
  pub next : s.waiting ≡ place ∷ rest
  pub few : has_room s ≡ true
  pub then : new ≡ begun s place rest

module _ {O : Type 0} (opener : O → OpenerState) where
  -- a file that was begun is looked at, and no answer comes of it
  pub record PassesOne (s new : MultiScan O) : Type 0 where
    pub at : ℕ
    pub place : ℕ
    pub found : Found
    pub looked : MultiScan O
    pub finds : Finds opener s looked at place found
    pub passes : Passes looked new at place found

  -- a step without an answer
  abbrev pub Steps : MultiScan O → MultiScan O → Type 0
  Steps s new = Begins s new ⊎ PassesOne s new

  -- so many steps
  abbrev pub Goes : ℕ → MultiScan O → MultiScan O → Type 0
  Goes zero s new = new ≡ s
  Goes (suc n) s new = (mid : MultiScan O) × Goes n s mid × Steps mid new

  -- a file that was begun is looked at, and this answer comes of it
  pub record AnswersOne (s new : MultiScan O) (r : PartitionPoll) : Type 0 where
    pub at : ℕ
    pub place : ℕ
    pub found : Found
    pub looked : MultiScan O
    pub finds : Finds opener s looked at place found
    pub answers : Answers looked new at place found r
    -- in an unordered scan no file that was handed in opened is passed over
    pub before : NoneBefore s at

  -- an answer: `End` only where no file is left; want of memory may be met before a file is looked at
  abbrev pub AnswersBy : MultiScan O → MultiScan O → PartitionPoll → Type 0
  AnswersBy s new poll.Pending = new ≡ s
  AnswersBy s new (poll.Partition p) = AnswersOne s new (poll.Partition p)
  AnswersBy s new poll.End = (s.window ≡ []) × (s.waiting ≡ []) × (new ≡ s)
  AnswersBy s new (poll.Fault f) = ((f ≡ fault.NoMemory) × (new ≡ s)) ⊎ AnswersOne s new (poll.Fault f)

  -- a poll: steps without an answer, and then the answer
  pub record IsPolled (old new : MultiScan O) (r : PartitionPoll) : Type 0 where
    pub steps : ℕ
    pub then : MultiScan O
    pub goes : Goes steps old then
    pub answer : AnswersBy then new r

  -- a poll is pending only where some opener's turns fell
  abbrev pub PendingWaited : MultiScan O → MultiScan O → PartitionPoll → Type 0
  PendingWaited old new r = r ≡ poll.Pending → Waited opener old.source.children new.source.children

  -- a failure of an opener is kept by an ordered scan
  abbrev pub KeepsFailure : MultiScan O → ℕ → Type 0
  KeepsFailure s k = (s.request.ordered ≡ true) × (list_any (keeps_failure k) s.window ≡ true)

  -- a failure is kept or given only where it was kept, or the opener's count of faults rose
  abbrev pub FailsBy : MultiScan O → MultiScan O → ℕ → Type 0
  FailsBy old new k = Failed opener old.source.children new.source.children k ⊎ KeepsFailure old k

  -- a fault of an opener is told only by such a cause
  abbrev pub FaultsBy : MultiScan O → MultiScan O → PartitionPoll → Type 0
  FaultsBy old new r = (k : ℕ) → r ≡ poll.Fault (fault.Opener k) → FailsBy old new k

-- ---- how far a call is
-- at most so many steps are left
abbrev pub weight : {O : Type 0} → MultiScan O → ℕ → ℕ
weight s at = 2 * length s.waiting + (length s.window - at)

-- what the file that was looked at comes to: the next one is looked at, or the poll answers
pub record GoesOn {O : Type 0} (s new : MultiScan O) (at next place : ℕ) (f : Found) : Type 0 where
  pub passes : Passes s new at place f
  pub nearer : weight new next < weight s at
  pub waits : 0 < next → (0 < at) ⊎ (f ≡ asks.waits)
  pub before : LooksAt s at → LooksAt new next

-- one or the other
abbrev pub ComesTo : {O : Type 0} → MultiScan O → MultiScan O → ℕ → ℕ → Found → Step → Type 0
ComesTo s new at k f (Next n) = GoesOn s new at n k f
ComesTo s new at k f (Answer r) = (r ≢ poll.Pending) × Answers s new at k f r

module _ {O : Type 0} (opener : O → OpenerState) where
  -- a step that is followed by a look at another file
  pub record StepsOn (s new : MultiScan O) (at next : ℕ) : Type 0 where
    pub step : Steps opener s new
    pub nearer : weight new next < weight s at
    pub waits : 0 < next → (0 < at) ⊎ Waited opener s.source.children new.source.children
    pub before : LooksAt new next

  -- a step that ends the poll
  pub record StepsLast (s new : MultiScan O) (at : ℕ) (r : PartitionPoll) : Type 0 where
    pub answer : AnswersBy opener s new r
    pub waits : r ≡ poll.Pending → 0 < at

  -- one or the other
  abbrev pub IsStep : MultiScan O → MultiScan O → ℕ → Step → Type 0
  IsStep s new at (Next n) = StepsOn s new at n
  IsStep s new at (Answer r) = StepsLast s new at r

-- where no file is left to begin: the end, or those that were begun wait
abbrev pub IsRest : {O : Type 0} → MultiScan O → PartitionPoll → Type 0
IsRest s poll.Pending = 0 < length s.window
IsRest s (poll.Partition p) = ⊥
IsRest s poll.End = s.window ≡ []
IsRest s (poll.Fault f) = ⊥
