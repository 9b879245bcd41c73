use Rattle.std.proofs.Common.{Err, refl, ap, subst, inl, List, ℕ}
use Rattle.scan_manifest.specs.declared.manifest.Manifest.{Manifest}
use Rattle.scan_manifest.specs.Manifest.{IsManifest}
use Rattle.scan_run.proofs.Running.{refused_many}
use Rattle.scan_run.proofs.run.take_manifest.Goals as goal

pub returns-in-Err-Bad-clause-halt : goal.returns-in-Err-Bad-clause-halt
returns-in-Err-Bad-clause-halt g c =
    let none = c.in-Err-Bad.ensures.bad (ap Err c.in-Err-Bad.field-0-is) in
    let refused = refused_many (g.I.Input.input c.args.input.now) (g.I.Input.input c.read_all.new.input) c.in-Ok.bytes.items c.in-Ok.ensures.ok in
    inl (refl, refused (subst (λ (xs : List ℕ). (m : Manifest) → ¬ IsManifest xs m) c.as_slice.ensures.value none))
