-- Which answers of a source end a request.
use Rattle.scan_segments.specs.declared.source.Polled.{Polled}
use Rattle.scan_segments.specs.declared.source.Polled.TheVariants as polled

-- memory sufficed for an answer
abbrev pub IsAnswer : Polled → Type 0
IsAnswer polled.NoMemory = ⊥
IsAnswer p = Unit {0}
