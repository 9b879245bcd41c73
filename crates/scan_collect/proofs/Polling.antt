-- What one poll of a stream or an iterator adds.
use Rattle.std.proofs.Common.{◌≡◌, List, Ok, Err, inl, inr, refl, sym, subst}
use Rattle.std.specs.Prelude.{◌⊎◌}
use Rattle.scan_values.specs.Arrays.{ArrayData}
use Rattle.scan_segments.specs.Source.{SourceState}
use Rattle.scan_streams.specs.Feeds.{FeedData}
use Rattle.scan_streams.specs.Streams.{StreamData, Answers, Ends, GivesRows, HasEnded, MapsRows, PutsOff, gives_itself}
use Rattle.scan_streams.specs.declared.fault.StreamFault.{StreamFault}
use Rattle.scan_streams.specs.declared.fault.StreamFault.TheVariants as fault
use Rattle.scan_streams.specs.declared.fault.StreamPoll.TheVariants as poll
use Rattle.scan_collect.specs.Gathers.{AddsArray, AddsLast, AddsNone, Breaks, Gathers, Pushes}
use Rattle.scan_collect.specs.declared.turn.Turn.{Turn}
use Rattle.scan_collect.specs.declared.turn.Turn.TheVariants as turn

pub polled_none : (s t : SourceState) (f g : FeedData) (before : List ArrayData) → PutsOff s t f g → AddsNone s t f g before before ⊎ AddsArray s f g before before
polled_none s t f g before h = inl (record { waits = h; same = refl })

pub polled_last : (s : SourceState) (f g : FeedData) (before : List ArrayData) → HasEnded g × Ends s.holds f g → AddsLast s f g before before
polled_last s f g before h = record { ended = h.0; ends = h.1; same = refl }

module _ {M F : Type 0} (s t : SourceState) (old new : StreamData M) (before after : List ArrayData) where
  gives_this : (x : ArrayData) → MapsRows (gives_itself {F = F} old.step) s.holds old new (Ok x) → GivesRows s.holds old.feed new.feed x
  gives_this x h = let answer : Ok x ≡ Ok h.rows = h.answer in let same : h.rows ≡ x = cc in subst (λ (a : ArrayData). GivesRows s.holds old.feed new.feed a) same h.gives

  pub polled_item : (x : ArrayData) (r : Turn F) → Answers {F = F} gives_itself s t old new (poll.Item x) → Pushes x before after r → Gathers s t old.feed new.feed before after r
  polled_item x turn.More h p = inr (record { goes_on = h.0; array = x; gives = gives_this x h.1; added = p })
  polled_item x turn.Last h p = absurd p
  polled_item x (turn.Stop f) h p = subst (λ (y : StreamFault F). Breaks s t old.feed y) (sym p) tt

  pub polled_fault : (x : StreamFault F) → Answers {A = ArrayData} gives_itself s t old new (poll.Fault x) → Breaks s t old.feed x
  polled_fault (fault.Map f) h = let k = h.2 in let answer : Err f ≡ Ok k.rows = k.answer in absurd cc
  polled_fault (fault.Setup f) h = h
  polled_fault (fault.Source id) h = h.halts
  polled_fault (fault.Corrupt id) h = h.halts
  polled_fault fault.Overflow h = h.halts
  polled_fault fault.NoMemory h = tt
