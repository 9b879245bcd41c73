-- Laws of polls of scans of many files.
use Rattle.std.specs.Prelude.{◌≡◌, ◌≤◌, ◌<◌, ◌+◌, ℕ, true, false, List, [], ◌∷◌, ◌++◌, length, Option}
use Rattle.std.specs.List.{list_all, list_any}
use Rattle.scan_expr.specs.declared.request.ScanRequest.{ScanRequest}
use Rattle.scan_opener.specs.Opener.{OpenerState}
use Rattle.scan_sources.specs.declared.request.BoundScanRequest.{BoundScanRequest}
use Rattle.scan_multi_sources.specs.Children.{ChildData, deferred_children, is_open}
use Rattle.scan_multi_sources.specs.MultiScans.{MultiScan}
use Rattle.scan_multi_sources.specs.Numbers.{is_given}
use Rattle.scan_multi_sources.specs.Partitions.{PartitionData}
use Rattle.scan_multi_sources.specs.Polls.{IsPolled}
use Rattle.scan_multi_sources.specs.Sources.{MultiData}
use Rattle.scan_multi_sources.specs.Starts.{StartsMulti, first_places, numbers_of}
use Rattle.scan_multi_sources.specs.declared.scan.PartitionPoll.{PartitionPoll}
use Rattle.scan_multi_sources.specs.declared.scan.PartitionPoll.TheVariants as poll
use Rattle.scan_polls.specs.Due.{IsPartOf, NoneOpen, OpenFirst, OpenedLead, Polls, RiseFrom, RiseUpTo, StandFirst, due, numbers_given, places_answered, places_in, times}

-- each file that was due was answered, passed over by its number, skipped, or is due
pub record Accounts {O : Type 0} (old new : MultiScan O) (rs : List PartitionPoll) : Type 0 where
  -- the places of those that were passed over, and of those that were skipped
  pub passed : List ℕ
  pub skipped : List ℕ
  pub each : (k : ℕ) → times k (due old) ≡ times k (places_answered rs) + times k passed + times k skipped + times k (due new)
  -- those that were answered or passed over were counted
  pub count : new.delivered ≡ old.delivered + length (places_answered rs) + length passed

abbrev pub AnsweredOnce : Type 0 → Type 0
AnsweredOnce O = (opener : O → OpenerState) (rs : List PartitionPoll) (old new : MultiScan O) → Polls opener rs old new → Accounts old new rs

-- what is answered and what is due stand in the order in which it was due
abbrev pub ComeInOrder : Type 0 → Type 0
ComeInOrder O = (opener : O → OpenerState) (rs : List PartitionPoll) (old new : MultiScan O) → Polls opener rs old new
    → (old.request).ordered ≡ true → IsPartOf (places_answered rs ++ due new) (due old)

-- numbers of partitions rise, from the count of those that were delivered before
abbrev pub NumbersRise : Type 0 → Type 0
NumbersRise O = (opener : O → OpenerState) (rs : List PartitionPoll) (old new : MultiScan O) → Polls opener rs old new
    → RiseFrom old.delivered (numbers_given rs)

-- no more files are begun than may be
abbrev pub BegunAtMost : Type 0 → Type 0
BegunAtMost O = (opener : O → OpenerState) (rs : List PartitionPoll) (old new : MultiScan O) → Polls opener rs old new
    → length old.window ≤ (old.source).concurrency → length new.window ≤ (new.source).concurrency

-- each file of a source stands once in the order in which files come, and no other number does
abbrev pub StandOnce : Type 0 → Type 0
StandOnce O = (cs : List (ChildData O)) (k : ℕ) → (k < length cs → times k (first_places cs) ≡ 1) × (length cs ≤ k → times k (first_places cs) ≡ 0)

-- behind a poll
pub record AnswersOpen {O : Type 0} (new : MultiScan O) (r : PartitionPoll) : Type 0 where
  -- of the files that are due those still stand first that were handed in opened
  pub first : OpenFirst new
  -- where it answered of another file, none of those is due
  pub none : (k : ℕ) → places_in r ≡ k ∷ [] → is_open new.source.children k ≡ false → NoneOpen new

-- files that were handed in opened are answered before the others
abbrev pub OpenedComeFirst : Type 0 → Type 0
OpenedComeFirst O = (opener : O → OpenerState) (r : PartitionPoll) (old new : MultiScan O) → IsPolled opener old new r → OpenFirst old → AnswersOpen new r

-- in the order in which files come they stand first
abbrev pub OpenedStandFirst : Type 0 → Type 0
OpenedStandFirst O = (cs : List (ChildData O)) → StandFirst (is_open cs) (first_places cs)

-- ---- the order of places
-- Places of files in the order in which they come.
pub record RiseByKind {O : Type 0} (cs : List (ChildData O)) (ks : List ℕ) : Type 0 where
  -- those of files that were handed in opened, and behind them those of the others
  pub firsts : List ℕ
  pub others : List ℕ
  pub all : ks ≡ firsts ++ others
  pub opened : list_all (is_open cs) firsts ≡ true
  pub closed : list_any (is_open cs) others ≡ false
  -- each of both rise
  pub firsts_rise : RiseFrom 0 firsts
  pub others_rise : RiseFrom 0 others
  -- where the opened files stand before the others in the source, all rise
  pub rise : OpenedLead cs → RiseFrom 0 ks

-- in an ordered scan from its beginning the places that are answered, and those that are still due, rise
abbrev pub ComeInRisingPlaces : Type 0 → Type 0
ComeInRisingPlaces O = (opener : O → OpenerState) (rs : List PartitionPoll) (source : MultiData O) (q : BoundScanRequest) (r : ScanRequest) (old new : MultiScan O)
    → StartsMulti source q (numbers_of r) old → Polls opener rs old new → q.ordered ≡ true → RiseByKind source.children (places_answered rs ++ due new)

-- sources are made with no file, or one, that was handed in opened, and then others that were not
abbrev pub OpenedLeadAsMade : Type 0 → Type 0
OpenedLeadAsMade O = (os : List O) (sizes : List (Option ℕ)) → OpenedLead (deferred_children os sizes)

-- ---- the end
-- at the end no file is due
abbrev pub NoneDueAtEnd : Type 0 → Type 0
NoneDueAtEnd O = (opener : O → OpenerState) (old new : MultiScan O) → IsPolled opener old new poll.End → due new ≡ []

-- of a scan from its beginning to its end
pub record AccountsForAll {O : Type 0} (cs : List (ChildData O)) (new : MultiScan O) (rs : List PartitionPoll) : Type 0 where
  -- the places of the files that were passed over by their numbers, and of those that were skipped
  pub passed : List ℕ
  pub skipped : List ℕ
  -- each file was answered, passed over or skipped, once; and no other number was
  pub each : (k : ℕ) → k < length cs → times k (places_answered rs) + times k passed + times k skipped ≡ 1
  pub others : (k : ℕ) → length cs ≤ k → times k (places_answered rs) + times k passed + times k skipped ≡ 0
  -- so they are as many as the files, and those that were answered or passed over were counted
  pub total : length cs ≡ length (places_answered rs) + length passed + length skipped
  pub count : new.delivered ≡ length (places_answered rs) + length passed

abbrev pub EndsWithAll : Type 0 → Type 0
EndsWithAll O = (opener : O → OpenerState) (rs : List PartitionPoll) (source : MultiData O) (q : BoundScanRequest) (r : ScanRequest) (old mid new : MultiScan O)
    → StartsMulti source q (numbers_of r) old → Polls opener rs old mid → IsPolled opener mid new poll.End → AccountsForAll source.children new rs

-- ---- the numbers of partitions
-- the number of a partition that a poll answers after polls with these answers
pub record IsNumbered {O : Type 0} (old new : MultiScan O) (rs : List PartitionPoll) (p : PartitionData) : Type 0 where
  -- the numbers of the files that were passed over since then: they are less, and not to be given
  pub passed : List ℕ
  pub less : RiseUpTo old.delivered passed p.index
  pub outside : list_any (is_given old.numbers) passed ≡ false
  -- it counts the files that were delivered before: before the polls, by their answers, and by passing over
  pub count : p.index ≡ old.delivered + length (places_answered rs) + length passed
  pub given : is_given old.numbers p.index ≡ true
  -- with it so many are delivered
  pub next : new.delivered ≡ p.index + 1

abbrev pub NumberedByDelivery : Type 0 → Type 0
NumberedByDelivery O = (opener : O → OpenerState) (rs : List PartitionPoll) (old mid new : MultiScan O) (p : PartitionData)
    → Polls opener rs old mid → IsPolled opener mid new (poll.Partition p) → IsNumbered old new rs p

-- from the beginning of a scan that leaves out no number a partition's number is that of the answers about files before it
abbrev pub NumberedFromStart : Type 0 → Type 0
NumberedFromStart O = (opener : O → OpenerState) (rs : List PartitionPoll) (source : MultiData O) (q : BoundScanRequest) (r : ScanRequest) (old mid new : MultiScan O) (p : PartitionData)
    → StartsMulti source q (numbers_of r) old → ((k : ℕ) → is_given (numbers_of r) k ≡ true) → Polls opener rs old mid → IsPolled opener mid new (poll.Partition p) → p.index ≡ length (places_answered rs)
