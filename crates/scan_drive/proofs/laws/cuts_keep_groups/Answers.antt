use Rattle.std.proofs.Common.{◌+◌, ◌++◌, ◌∙◌, ap}
use Rattle.scan_drive.specs.Files.{cut, grouped}
use Rattle.scan_drive.proofs.Giving.{cut_group, count_grouped}
use Rattle.scan_drive.proofs.laws.cuts_keep_groups.Goals as goal

pub returns : goal.returns
returns c n file rows gs = ap (λ k. cut (k + n) (grouped file rows ++ gs)) (count_grouped file rows) ∙ cut_group file rows n gs
