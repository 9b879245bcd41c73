-- Why a run stops before it prints, and what it may have written.
use Rattle.std.specs.Prelude.{◌≡◌, ◌⊎◌, ℕ, List, ◌++◌, option_map, IfSome}
use Rattle.scan_multi.specs.Output.{ChunkData}
use Rattle.scan_multi.specs.declared.scan.fault.RangeFault.TheVariants.{Reversed, Past}
use Rattle.scan_multi.specs.declared.scan.fault.ScanFault.{ScanFault}
use Rattle.scan_multi.specs.declared.scan.fault.ScanFault.TheVariants as fault
use Rattle.scan_run.specs.declared.run.Stop.{Stop}
use Rattle.scan_run.specs.declared.run.Stop.TheVariants.{Unbound, Unreadable, Failed, NoMemory}
use Rattle.scan_manifest.specs.declared.manifest.Manifest.{Manifest}
use Rattle.scan_run.specs.Io.{InputState, OutputState, InputFailed, WasRead}
use Rattle.scan_run.specs.ReadAll.{GaveAll, IsLonger}
use Rattle.scan_manifest.specs.Manifest.{IsManifest}
use Rattle.scan_run.specs.Run.{IsScanned, printed, IsRefused, IsUnbound, IsUnreadable, IsFailing, WroteNone}

-- why a run stops by a fault of the scan
abbrev pub stop_of : ScanFault → Stop
stop_of fault.NoMemory = NoMemory
stop_of (fault.Opener file) = Failed
stop_of (fault.Source file segment) = Failed
stop_of (fault.DTypeMismatch file) = Unreadable
stop_of (fault.Bind f) = Unbound
stop_of fault.Partitions = Unbound
stop_of (fault.RowRange Reversed) = Unbound
stop_of (fault.RowRange (Past file)) = Unreadable
stop_of (fault.Layout file f) = Unreadable
stop_of (fault.Corrupt file segment) = Unreadable
stop_of (fault.TooManyRows file) = Unreadable
stop_of fault.Concurrency = Unbound
stop_of (fault.Overflow file) = Unreadable

-- the status of a run that stops so
abbrev pub status_of : Stop → ℕ
status_of Unbound = 3
status_of Unreadable = 4
status_of Failed = 5
status_of NoMemory = 7

-- the reason is one that the manifest shows
abbrev pub IsStop : Manifest → Stop → Type 0
IsStop m Unbound = IsUnbound m
IsStop m Unreadable = IsUnreadable m
IsStop m Failed = IsFailing m
IsStop m NoMemory = Unit {0}

-- the lines of some output that the manifest admits
abbrev pub IsTextOf : Manifest → List ℕ → Type 0
IsTextOf m text = (chunks : List ChunkData) × IsScanned m chunks × (text ≡ printed m chunks)

-- what was written is a front of the lines of an output that the input, a manifest, admits
pub record FrontOfLines (input input' : InputState) (output output' : OutputState) : Type 0 where
  pub read : WasRead input input'
  pub manifest : Manifest
  pub is : IfSome input.left (λ bytes. IsManifest bytes manifest)
  pub chunks : List ChunkData
  pub scanned : IsScanned manifest chunks
  pub front : List ℕ
  pub rest : List ℕ
  pub parts : printed manifest chunks ≡ front ++ rest
  pub written : output'.written ≡ option_map (λ before. before ++ front) output.written

-- nothing was written, or a front of such lines
abbrev pub WroteFrontOfLines : InputState → InputState → OutputState → OutputState → Type 0
WroteFrontOfLines input input' output output' = WroteNone output output' ⊎ FrontOfLines input input' output output'

-- the input was read to its end, and is this manifest
abbrev pub IsGiven : Manifest → InputState → InputState → Type 0
IsGiven m old new = (bytes : List ℕ) × GaveAll bytes old new × IsManifest bytes m

-- a status before there is a manifest
abbrev pub Halts : ℕ → InputState → InputState → Type 0
Halts s old new = ((s ≡ 2) × IsRefused old new) ⊎ ((s ≡ 6) × (InputFailed old new ⊎ IsLonger 67108864 old new)) ⊎ (s ≡ 7)

-- a status before anything is written
abbrev pub Ends : ℕ → InputState → InputState → Type 0
Ends s old new = Halts s old new ⊎ ((m : Manifest) × (stop : Stop) × IsGiven m old new × IsStop m stop × (s ≡ status_of stop))

-- these are chunks of an output that the manifest which the input is admits
abbrev pub IsReady : List ChunkData → InputState → InputState → Type 0
IsReady chunks old new = (m : Manifest) × IsGiven m old new × IsScanned m chunks
