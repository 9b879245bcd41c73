use Rattle.std.proofs.Common.{sym, ◌∙◌, arith, refl}
use Rattle.scan_values.specs.FieldLists.{dtypes_of}
use Rattle.scan_table.proofs.Types.{key_here, key_next, keys_done}
use Rattle.scan_table.proofs.check.first_bad_key.Goals as goal

pub loop-key-init : goal.loop-key-init
loop-key-init c = λ d es e. refl

pub loop-key-preserved : goal.loop-key-preserved
loop-key-preserved c = λ d es e.
    key_next d c.args.keys.now es (dtypes_of c.args.types.now) c.loop-key.key (omega (arith, c.loop-key-test.true)) e (sym c.is_scalar_at.ensures ∙ c.if-not-is_scalar_at.false) (c.loop-key.invariant d es e)

pub returns-then-not-is_scalar_at : goal.returns-then-not-is_scalar_at
returns-then-not-is_scalar_at c = λ d es e.
    key_here d c.args.keys.now es (dtypes_of c.args.types.now) c.loop-key.key (omega (arith, c.loop-key-test.true)) e (sym c.is_scalar_at.ensures ∙ c.if-not-is_scalar_at.true) (c.loop-key.invariant d es e)

pub returns : goal.returns
returns c = λ d es e. keys_done d c.args.keys.now c.loop-key.key (omega (arith, c.loop-key-test.false)) (c.loop-key.invariant d es e)
