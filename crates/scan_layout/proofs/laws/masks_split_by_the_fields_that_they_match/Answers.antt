use Rattle.scan_layout.proofs.Splits.{splits_by_fields}
use Rattle.scan_layout.proofs.laws.masks_split_by_the_fields_that_they_match.Goals as goal

pub returns : goal.returns
returns c = splits_by_fields
