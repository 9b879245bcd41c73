use Rattle.std.proofs.Common.{Err, refl, ap, subst, inl, List, ℕ}
use Rattle.scan_manifest.specs.declared.manifest.Manifest.{Manifest}
use Rattle.scan_manifest.proofs.CallerLemmas.{manifest_agrees}
use Rattle.scan_union_run.specs.Unions.{IsUnionManifest}
use Rattle.scan_union_run.proofs.Running.{refused}
use Rattle.scan_union_run.proofs.program.take_union.Goals as goal

pub returns-in-Ok-union_of_bytes-clause-agree : goal.returns-in-Ok-union_of_bytes-clause-agree
returns-in-Ok-union_of_bytes-clause-agree g c = manifest_agrees c.as_slice.result.now c.in-Ok-union_of_bytes.manifest c.in-Ok-union_of_bytes.ensures.ok.0

pub returns-in-Err-Bad-clause-halt : goal.returns-in-Err-Bad-clause-halt
returns-in-Err-Bad-clause-halt g c =
    let none = c.in-Err-Bad.ensures.bad (ap Err c.in-Err-Bad.field-0-is) in
    let is = refused (g.I.Input.input c.args.input.now) (g.I.Input.input c.read_all.new.input) c.in-Ok.bytes.items c.in-Ok.ensures.ok in
    inl (refl, is (subst (λ (xs : List ℕ). (m : Manifest) → ¬ IsUnionManifest xs m) c.as_slice.ensures.value none))
