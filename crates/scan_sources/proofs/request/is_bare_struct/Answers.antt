use Rattle.std.proofs.Common.{◌≡◌, ◌∙◌, sym, nat_eq, false, arith}
use Rattle.std.proofs.lemmas.Bool.Decides.{nat_tests}
use Rattle.scan_sources.proofs.Binding.{not_bare}
use Rattle.scan_sources.proofs.request.is_bare_struct.Goals as goal

pub returns-else-nfields-eq0 : goal.returns-else-nfields-eq0
returns-else-nfields-eq0 c =
    let none : nat_eq c.nfields.result 0 ≡ false = grind (arith, nat_tests, c.if-nfields-eq0.false) in
    none ∙ sym (not_bare c.args.dtype.now c.in-Some.fields.now c.in-Some.ensures (λ e. c.if-nfields-eq0.false (c.nfields.ensures ∙ e)))
