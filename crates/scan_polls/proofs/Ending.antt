-- The files of a scan at its end.
use Rattle.std.proofs.Common.{◌≡◌, ◌≤◌, ◌<◌, ◌+◌, ℕ, List, [], ◌++◌, length, ap, ◌∙◌, length-append, arith}
use Rattle.scan_expr.specs.declared.request.ScanRequest.{ScanRequest}
use Rattle.scan_opener.specs.Opener.{OpenerState}
use Rattle.scan_sources.specs.declared.request.BoundScanRequest.{BoundScanRequest}
use Rattle.scan_multi_sources.specs.Files.{SlotData}
use Rattle.scan_multi_sources.specs.MultiScans.{MultiScan}
use Rattle.scan_multi_sources.specs.Polls.{IsPolled}
use Rattle.scan_multi_sources.specs.Sources.{MultiData}
use Rattle.scan_multi_sources.specs.Starts.{StartsMulti, first_places, numbers_of}
use Rattle.scan_multi_sources.specs.declared.scan.PartitionPoll.{PartitionPoll}
use Rattle.scan_multi_sources.specs.declared.scan.PartitionPoll.TheVariants as poll
use Rattle.scan_polls.specs.Due.{Polls, due, numbers_given, places_answered, places_begun, times}
use Rattle.scan_polls.specs.Laws.{AccountsForAll}
use Rattle.scan_polls.proofs.Counting.{stand_once, times_append}
use Rattle.scan_polls.proofs.Placing.{due_first}
use Rattle.scan_polls.proofs.Polling.{poll_moves, polls_move}
use Rattle.scan_polls.proofs.Stepping.{Moved}
use Rattle.scan_polls.proofs.Totals.{three_as_many}

module _ {O : Type 0} (opener : O → OpenerState) where
  pub none_due : (old new : MultiScan O) → IsPolled opener old new poll.End → due new ≡ []
  none_due old new h =
      let end : ((h.then).window ≡ []) × ((h.then).waiting ≡ []) × (new ≡ h.then) = h.answer in
      ap (λ (s : MultiScan O). due s) end.2 ∙ ap (λ (ws : List SlotData). places_begun ws ++ (h.then).waiting) end.0 ∙ end.1

  pub ends_with_all : (rs : List PartitionPoll) (source : MultiData O) (q : BoundScanRequest) (r : ScanRequest) (old mid new : MultiScan O)
      → StartsMulti source q (numbers_of r) old → Polls opener rs old mid → IsPolled opener mid new poll.End → AccountsForAll source.children new rs
  ends_with_all rs source q r old mid new starts polls end =
      let before : Moved old mid (places_answered rs) (numbers_given rs) = polls_move opener rs old mid polls in
      let last : Moved mid new [] [] = poll_moves opener mid new poll.End end in
      let passed = before.passed ++ last.passed in
      let skipped = before.skipped ++ last.skipped in
      let each : (k : ℕ) → k < length source.children → times k (places_answered rs) + times k passed + times k skipped ≡ 1 = λ k l. let one = (stand_once source.children k).0 l in let all = sums before last k in omega (arith, one, all) in
      let others : (k : ℕ) → length source.children ≤ k → times k (places_answered rs) + times k passed + times k skipped ≡ 0 = λ k l. let none = (stand_once source.children k).1 l in let all = sums before last k in omega (arith, none, all) in
      record {
        passed = passed;
        skipped = skipped;
        each = each;
        others = others;
        total = three_as_many (length source.children) (places_answered rs) passed skipped each others;
        count =
            let first : old.delivered ≡ 0 = ap (λ (s : MultiScan O). s.delivered) starts.scan in
            let a = before.count in
            let b = last.count in
            let both = length-append before.passed last.passed in
            omega (arith, first, a, b, both);
      }
    where
      -- how often a place was answered, passed over or skipped
      sums : (a : Moved old mid (places_answered rs) (numbers_given rs)) (b : Moved mid new [] []) (k : ℕ)
          → times k (places_answered rs) + times k (a.passed ++ b.passed) + times k (a.skipped ++ b.skipped) ≡ times k (first_places source.children)
      sums a b k =
          let first : times k (due old) ≡ times k (first_places source.children) = ap (times k) (due_first source q r old starts) in
          let none : times k (due new) ≡ times k [] = ap (times k) (none_due mid new end) in
          let here = a.each k in
          let there = b.each k in
          let passed = times_append k a.passed b.passed in
          let skipped = times_append k a.skipped b.skipped in
          omega (arith, first, none, here, there, passed, skipped)
