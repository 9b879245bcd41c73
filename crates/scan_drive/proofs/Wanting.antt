-- Lookups that end without bytes.
use Rattle.std.proofs.Common.{◌≡◌, List, [], ◌∷◌, ◌++◌, refl, sym, ap, ◌∙◌, append-nil}
use Rattle.std.specs.Prelude.{Option, None, Some, option_map}
use Rattle.scan_segments.specs.Cache.{Loses, happened}
use Rattle.scan_segments.specs.Cached.{Moves}
use Rattle.scan_segments.specs.declared.cache.CacheEvent.TheVariants.{Missed}
use Rattle.scan_segments.specs.declared.segment.SegmentKey.{SegmentKey}
use Rattle.scan_drive.specs.Wants.{Cache, LooksUp}

pub ended_none : {X : Type 0} (o : Option (List X)) → o ≡ option_map (λ es. es ++ []) o
ended_none None = refl
ended_none (Some es) = ap Some (sym (append-nil es))

-- a lookup that found nothing
pub looks_missed : (k : SegmentKey) (c d : Cache) → Moves Loses (happened (Missed k) c.ended) c d → LooksUp c d
looks_missed k c d m = record { events = Missed k ∷ []; no_puts = refl; moves = m }

-- a lookup that did not end
pub looks_short : (c d : Cache) → Moves Loses c.ended c d → LooksUp c d
looks_short c d m = record {
  events = [];
  no_puts = refl;
  moves = record {
    entries = m.entries;
    ended_is = m.ended_is ∙ ended_none c.ended;
    short = m.short;
    faults = m.faults;
    turns = m.turns;
  };
}
