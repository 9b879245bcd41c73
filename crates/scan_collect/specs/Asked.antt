-- Why scans are not read to their end.
use Rattle.std.specs.Prelude.{◌≡◌, ◌⊎◌, ℕ, map, Option, None, Some}
use Rattle.std.specs.declared.ops.Range.{Range}
use Rattle.scan_segments.specs.Source.{SourceState}
use Rattle.scan_readers.specs.Readers.{ReaderState}
use Rattle.scan_streams.specs.Splits.{new_split}
use Rattle.scan_streams.specs.declared.fault.StreamFault.{StreamFault}
use Rattle.scan_streams.specs.declared.fault.StreamFault.TheVariants as fault
use Rattle.scan_streams.specs.declared.setup.SetupFault.{SetupFault}
use Rattle.scan_streams.specs.declared.setup.SetupFault.TheVariants.{NoMemory}
use Rattle.scan_core.specs.BuilderData.{BuilderData}
use Rattle.scan_core.specs.Prepared.{IsPrepared}
use Rattle.scan_core.specs.ScanData.{ScanData}
use Rattle.scan_core.specs.Setup.{range_fault, setup_fault}
use Rattle.scan_core.specs.Streaming.{streamed}
use Rattle.scan_collect.specs.Reads.{StopsBy}

-- why nothing is set up: what is wrong, or where nothing is, want of memory
abbrev pub RefusedBy : Option SetupFault → SetupFault → Type 0
RefusedBy None f = f ≡ NoMemory
RefusedBy (Some g) f = f ≡ g

-- why a scan is not read to the end of a range: reading its splits stops, or the range is refused
abbrev pub StopsScan : {M F : Type 0} → SourceState → SourceState → ScanData M → Option (Range ℕ) → StreamFault F → Type 0
StopsScan s t c r x = StopsBy s t (map new_split (streamed c r)) x ⊎ ((f : SetupFault) × (x ≡ fault.Setup f) × RefusedBy (range_fault r c.rows) f)

-- why a builder's scan is not: reading the scan that it sets up stops, or it is refused
abbrev pub StopsRows : {R M F : Type 0} → ReaderState → BuilderData R M → SourceState → SourceState → StreamFault F → Type 0
StopsRows {R} {M} state b s t x = ((c : ScanData M) × IsPrepared state b c × StopsScan s t c None x) ⊎ ((f : SetupFault) × (x ≡ fault.Setup f) × RefusedBy (setup_fault b state.rows) f)
