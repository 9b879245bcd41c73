use Rattle.std.specs.Fmt.{HasWritten, IsPlainFormatter}
use Rattle.scan_layout.specs.Shown.{indent}
use Rattle.scan_layout.proofs.shown.show_indent.Given as goal

abbrev pub invariant-loop-i : goal.invariant-loop-i
invariant-loop-i g l = IsPlainFormatter l.initial.f → HasWritten g.W.Write.write_str_gives l.initial.f (indent l._i) l.f
