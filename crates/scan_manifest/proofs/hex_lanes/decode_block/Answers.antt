use Rattle.scan_manifest.proofs.HexLanes.{bytes_at, long_joined}
use Rattle.scan_manifest.proofs.hex_lanes.decode_block.Goals as goal

pub returns-clause-long : goal.returns-clause-long
returns-clause-long c = long_joined c.args.text c.values-high.result c.values-low.result c.fits-text.0 c.values-high.ensures.long c.values-low.ensures.long

pub returns-clause-bytes : goal.returns-clause-bytes
returns-clause-bytes c = λ good.
    bytes_at c.args.text c.values-high.result c.values-low.result c.fits-text.0 c.values-high.ensures.long c.values-low.ensures.long
    c.values-high.ensures.digits c.values-low.ensures.digits (c.are_below_16-good.ensures good)
