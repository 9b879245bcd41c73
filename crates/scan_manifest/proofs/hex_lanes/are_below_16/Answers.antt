use Rattle.scan_manifest.proofs.HexLanes.{small_by_mask}
use Rattle.scan_manifest.proofs.hex_lanes.are_below_16.Goals as goal

pub returns : goal.returns
returns c = λ h k _. small_by_mask c.args.v c.fits-v.0 h k
