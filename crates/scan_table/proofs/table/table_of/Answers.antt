use Rattle.std.proofs.Common.{◌≡◌, ℕ, List, [], refl, ap, ◌∙◌, subst, arith}
use Rattle.std.proofs.lemmas.Result.{err_from_is_err_and}
use Rattle.scan_groups.specs.Running.{AreOf}
use Rattle.scan_groups.specs.declared.fault.GroupsFault.TheVariants as groups
use Rattle.scan_groups.specs.declared.measure.Measured.{Measured}
use Rattle.scan_table.specs.Spec.{all_measured, key_count, measured_from}
use Rattle.scan_table.specs.Totalled.{AreKeyed, chunk_rows}
use Rattle.scan_table.proofs.table.table_of.Goals as goal

pub returns-in_err-measures-clause-ok : goal.returns-in_err-measures-clause-ok
returns-in_err-measures-clause-ok c = let p = err_from_is_err_and c.from_residual.result c.from_residual.ensures.1 in λ k. rw (p.1) tt

pub returns-in_err-measures-clause-err : goal.returns-in_err-measures-clause-err
returns-in_err-measures-clause-err c = let p = err_from_is_err_and c.from_residual.result c.from_residual.ensures.1 in rw (p.1, p.2) (groups.NoMemory, refl, λ k. tt)

pub returns-in_err-groups-clause-ok : goal.returns-in_err-groups-clause-ok
returns-in_err-groups-clause-ok c = let p = err_from_is_err_and c.from_residual-in_err-groups.result c.from_residual-in_err-groups.ensures.1 in λ k. rw (p.1) tt

pub returns-in_err-groups-clause-err : goal.returns-in_err-groups-clause-err
returns-in_err-groups-clause-err c = let p = err_from_is_err_and c.from_residual-in_err-groups.result c.from_residual-in_err-groups.ensures.1 in rw (p.1, p.2) (groups.NoMemory, refl, λ k. tt)

pub returns-in_err-add_chunks-clause-ok : goal.returns-in_err-add_chunks-clause-ok
returns-in_err-add_chunks-clause-ok c = let p = err_from_is_err_and c.from_residual-in_err-add_chunks.result c.from_residual-in_err-add_chunks.ensures.1 in λ k. rw (p.1) tt

pub returns-in_err-add_chunks-clause-err : goal.returns-in_err-add_chunks-clause-err
returns-in_err-add_chunks-clause-err c = let p = err_from_is_err_and c.from_residual-in_err-add_chunks.result c.from_residual-in_err-add_chunks.ensures.1 in rw (p.1, p.2) (groups.NoMemory, refl, λ k. tt)

pub returns-in_err-groups-2-clause-ok : goal.returns-in_err-groups-2-clause-ok
returns-in_err-groups-2-clause-ok c = let p = err_from_is_err_and c.from_residual-in_err-groups-2.result c.from_residual-in_err-groups-2.ensures.1 in λ k. rw (p.1) tt

pub returns-in_err-groups-2-clause-err : goal.returns-in_err-groups-2-clause-err
returns-in_err-groups-2-clause-err c =
    let s = c.args.spec.now in
    let cs = c.args.chunks.items in
    let ms = all_measured s in
    let keys = c.len-keys.result in
    let n : keys ≡ key_count s = omega (arith, c.len-keys.ensures, s.keys.ok.0) in
    let are = c.in_ok-measures.ensures ∙ ap (measured_from 0) c.as_slice.ensures.value in
    let none : AreOf keys ms [] c.in_ok-groups.groups = subst (λ (xs : List Measured). AreOf keys xs [] c.in_ok-groups.groups) are c.in_ok-groups.ensures in
    let P : ℕ → Type 0 = λ k. AreKeyed k cs → AreOf k ms (chunk_rows k cs) c.add_chunks.new.groups in
    let got : P (key_count s) = subst P n (λ k. c.in_ok-add_chunks.ensures ms [] none k) in
    let p = err_from_is_err_and c.from_residual-in_err-groups-2.result c.from_residual-in_err-groups-2.ensures.1 in
    rw (p.1, p.2) (c.in_err-groups-2.field-0.0, refl, λ k. c.in_err-groups-2.ensures.err (key_count s) ms (chunk_rows (key_count s) cs) (got k))

pub returns-clause-ok : goal.returns-clause-ok
returns-clause-ok c =
    let s = c.args.spec.now in
    let cs = c.args.chunks.items in
    let ms = all_measured s in
    let keys = c.len-keys.result in
    let n : keys ≡ key_count s = omega (arith, c.len-keys.ensures, s.keys.ok.0) in
    let are = c.in_ok-measures.ensures ∙ ap (measured_from 0) c.as_slice.ensures.value in
    let none : AreOf keys ms [] c.in_ok-groups.groups = subst (λ (xs : List Measured). AreOf keys xs [] c.in_ok-groups.groups) are c.in_ok-groups.ensures in
    let P : ℕ → Type 0 = λ k. AreKeyed k cs → AreOf k ms (chunk_rows k cs) c.add_chunks.new.groups in
    let got : P (key_count s) = subst P n (λ k. c.in_ok-add_chunks.ensures ms [] none k) in
    λ k. c.in_ok-groups-2.ensures.ok (key_count s) ms (chunk_rows (key_count s) cs) (got k)
