use Rattle.std.proofs.Common.{◌+◌, ◌∙◌, refl, rules}
use Rattle.std.proofs.lemmas.Iterator.{YieldsList-from_range, YieldsList-from_map_by, items_from_collect}
use Rattle.std.proofs.lemmas.Result.{IfOk-weaker}
use Rattle.scan_values.specs.Selections.{numbers}
use Rattle.scan_spelling.specs.Written.{flag_of}
use Rattle.scan_run.specs.Generated.{value_of}
use Rattle.scan_run.proofs.Making.{flags_each}
use Rattle.scan_run.proofs.generate.columns.value_flags.Goals as goal

pub returns : goal.returns
returns c =
    let a = c.args.first in
    let b = a + c.args.count in
    IfOk-weaker c.collect.result _ _ (λ v h. h ∙ flags_each value_of (numbers a b))
    (items_from_collect c.collect.result c.collect.ensures.ran (YieldsList-from_map_by _ (λ r. r) (λ g. flag_of (value_of g)) (YieldsList-from_range a b _ c.map.ensures.source refl) c.map.ensures.closure (λ x r q k. search rules)))
