use Rattle.std.proofs.Common.{◌∙◌, sym}
use Rattle.scan_columns.proofs.Evaluation.{same_values}
use Rattle.scan_columns.proofs.laws.an_evaluation_gives_what_apply_gives.Goals as goal

pub returns : goal.returns
returns c s e items made applied h k = same_values made applied (h ∙ sym k)
