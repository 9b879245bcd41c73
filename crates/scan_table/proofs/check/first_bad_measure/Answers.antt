use Rattle.std.proofs.Common.{◌≡◌, ◌+◌, get_or, ap, sym, ◌∙◌, subst, arith}
use Rattle.scan_values.specs.FieldLists.{dtypes_of}
use Rattle.scan_table.proofs.Types.{AreRead, behind_most, read_done, read_first, read_next, read_stop}
use Rattle.scan_table.proofs.check.first_bad_measure.Goals as goal

pub loop-i-init : goal.loop-i-init
loop-i-init c = record { most = omega arith; read = λ d ks e h. read_first d (dtypes_of c.args.types.now) ks c.args.measures.now c.args.keys e h }

pub loop-i-preserved : goal.loop-i-preserved
loop-i-preserved c =
    let i = c.loop-i.i in
    let ts = dtypes_of c.args.types.now in
    let ms = c.args.measures.now in
    let m = get_or ms i c.index-measures-i.result in
    let is : m ≡ get_or ms i m = ap (get_or ms i) c.index-measures-i.is in
    let b = behind_most c.loop-i.place m.1 in
    record {
      most = omega (arith, c.behind-place.ensures, b, c.loop-i.invariant.most);
      read = λ d ks e h.
          subst (λ p. AreRead d ts ms (i + 1) p) (sym c.behind-place.ensures)
          (read_next d ts ms i c.loop-i.place m (omega (arith, c.loop-i-test.true)) is (sym c.may_read_at.ensures ∙ c.if-not-may_read_at.false) (c.loop-i.invariant.read d ks e h));
    }

pub returns-then-not-may_read_at : goal.returns-then-not-may_read_at
returns-then-not-may_read_at c =
    let i = c.loop-i.i in
    let ms = c.args.measures.now in
    let m = get_or ms i c.index-measures-i.result in
    let is : m ≡ get_or ms i m = ap (get_or ms i) c.index-measures-i.is in
    λ d ks e h. read_stop d (dtypes_of c.args.types.now) ms i c.loop-i.place m (omega (arith, c.loop-i-test.true)) is (sym c.may_read_at.ensures ∙ c.if-not-may_read_at.true) (c.loop-i.invariant.read d ks e h)

pub returns : goal.returns
returns c = λ d ks e h. read_done d (dtypes_of c.args.types.now) c.args.measures.now c.loop-i.i c.loop-i.place (omega (arith, c.loop-i-test.false)) (c.loop-i.invariant.read d ks e h)
