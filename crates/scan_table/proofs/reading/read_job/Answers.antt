use Rattle.std.proofs.Common.{Some, sym, ap, ◌∙◌}
use Rattle.std.proofs.lemmas.Result.{err_from_is_err_and}
use Rattle.serde_json.specs.View.{view}
use Rattle.scan_table.specs.Jobs.{keys_at, manifest_at, measures_at}
use Rattle.scan_table.proofs.Parsing.{bad_list, bad_none, no_keys, no_manifest, no_measures, same_fault, wrong_form}
use Rattle.scan_table.proofs.reading.read_job.Goals as goal

pub returns-then-not-has_job_form-clause-bad : goal.returns-then-not-has_job_form-clause-bad
returns-then-not-has_job_form-clause-bad c = λ h j a. wrong_form (view c.args.json.now) j a (sym c.has_job_form.ensures ∙ c.if-not-has_job_form.true)

pub returns-in_err-manifest-clause-bad : goal.returns-in_err-manifest-clause-bad
returns-in_err-manifest-clause-bad c = λ h j a.
    let p = err_from_is_err_and c.from_residual.result c.from_residual.ensures.1 in
    let d = view c.args.json.now in
    no_manifest d j a (bad_none (manifest_at d) c.in_err-manifest.field-0.0 c.in_err-manifest.ensures (same_fault c.from_residual.result p.0 c.in_err-manifest.field-0.0 p.1 p.2 h))

pub returns-in_err-keys-clause-bad : goal.returns-in_err-keys-clause-bad
returns-in_err-keys-clause-bad c = λ h j a.
    let p = err_from_is_err_and c.from_residual-in_err-keys.result c.from_residual-in_err-keys.ensures.1 in
    let d = view c.args.json.now in
    no_keys d j a (bad_list (keys_at d) c.in_err-keys.field-0.0 c.in_err-keys.ensures (same_fault c.from_residual-in_err-keys.result p.0 c.in_err-keys.field-0.0 p.1 p.2 h))

pub returns-in_err-measures-clause-bad : goal.returns-in_err-measures-clause-bad
returns-in_err-measures-clause-bad c = λ h j a.
    let p = err_from_is_err_and c.from_residual-in_err-measures.result c.from_residual-in_err-measures.ensures.1 in
    let d = view c.args.json.now in
    no_measures d j a (bad_list (measures_at d) c.in_err-measures.field-0.0 c.in_err-measures.ensures (same_fault c.from_residual-in_err-measures.result p.0 c.in_err-measures.field-0.0 p.1 p.2 h))

pub returns-clause-ok : goal.returns-clause-ok
returns-clause-ok c = record {
  form = sym c.has_job_form.ensures ∙ c.if-not-has_job_form.false;
  manifest = c.in_ok-manifest.manifest;
  there = c.in_ok-manifest.ensures;
  of = c.job_of.ensures.of;
  keys = c.in_ok-keys.ensures ∙ ap Some (sym c.job_of.ensures.keys);
  measures = c.in_ok-measures.ensures ∙ ap Some (sym c.job_of.ensures.measures);
}
