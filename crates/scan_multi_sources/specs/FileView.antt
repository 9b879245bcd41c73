-- What a file of a scan is to contracts.
use Rattle.scan_multi_sources.specs.Files.{SlotData, slot_data, StageData}
use Rattle.scan_multi_sources.specs.Files as file
use Rattle.scan_multi_sources.specs.declared.slot.Slot.{Slot}
use Rattle.scan_multi_sources.specs.declared.slot.Stage.{Stage}
use Rattle.scan_multi_sources.specs.declared.slot.Stage.TheVariants.{Opening, Opened, Failed}

-- how far a file that was begun is, as contracts see it
abbrev pub stage_view : Stage → StageData
stage_view Opening = file.opening
stage_view (Opened l) = file.opened l.value
stage_view Failed = file.failed

-- and the file with its place
abbrev pub slot_view : Slot → SlotData
slot_view s = slot_data s.place (stage_view s.stage)
