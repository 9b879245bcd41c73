use Rattle.std.proofs.Common.{◌≡◌, ◌+◌, ◌*◌, ◌%◌, ◌++◌, ap, sym, ◌∙◌, length, map}
use Rattle.std.proofs.lemmas.Result.{on_ok_weaker}
use Rattle.std.specs.List.{flat_map}
use Rattle.scan_values.specs.declared.ptype.PType.TheVariants.{U32}
use Rattle.scan_values.specs.Selections.{numbers}
use Rattle.scan_run.specs.Generated.{offsets, offsets_from}
use Rattle.scan_run.specs.GeneratedBytes.{longs}
use Rattle.scan_run.proofs.Cutting.{wide_ids, wide_length, column_added, count_offsets}
use Rattle.scan_run.proofs.generate.files.push_offsets.Goals as goal

pub push_column-requires-clause-long : goal.push_column-requires-clause-long
push_column-requires-clause-long c =
    let vs = offsets c.args.first c.args.count in
    let wide = wide_ids U32 (offsets_from 0 (map (λ g. g % 4) (numbers c.args.first (c.args.first + c.args.count)))) in
    let same = c.as_flattened-bytes.ensures.value ∙ ap (flat_map (λ x. x)) c.deref.ensures.value ∙ c.in_ok-words.ensures in
    ap length same ∙ (wide_length longs 4 vs wide ∙ ap (λ n. 4 * n) (count_offsets c.args.first c.args.count))

pub returns : goal.returns
returns c =
    let vs = offsets c.args.first c.args.count in
    let wide = wide_ids U32 (offsets_from 0 (map (λ g. g % 4) (numbers c.args.first (c.args.first + c.args.count)))) in
    let same = c.as_flattened-bytes.ensures.value ∙ ap (flat_map (λ x. x)) c.deref.ensures.value ∙ c.in_ok-words.ensures in
    on_ok_weaker c.push_column.result (λ e s. column_added s U32 vs _ _ _ _ wide same (count_offsets c.args.first c.args.count) e) c.push_column.ensures
