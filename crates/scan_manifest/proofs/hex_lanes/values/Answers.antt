use Rattle.scan_manifest.proofs.HexLanes.{long_values, read_values}
use Rattle.scan_manifest.proofs.hex_lanes.values.Goals as goal

pub returns-clause-long : goal.returns-clause-long
returns-clause-long c = long_values c.args.text c.fits-text.0

pub returns-clause-digits : goal.returns-clause-digits
returns-clause-digits c = read_values c.args.text c.fits-text
