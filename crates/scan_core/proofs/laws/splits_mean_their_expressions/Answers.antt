use Rattle.scan_core.proofs.Splitting.{split_means}
use Rattle.scan_core.proofs.laws.splits_mean_their_expressions.Goals as goal

pub returns : goal.returns
returns c = split_means
