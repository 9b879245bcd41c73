use Rattle.std.proofs.Common.{sym, ◌∙◌}
use Rattle.scan_readers.proofs.Making.{child_seen, lent_at, lent_past}
use Rattle.scan_readers.proofs.nested.NestedReader.child.Goals as goal

pub returns-in-Some : goal.returns-in-Some
returns-in-Some c = rw (← c.self.view_is) (child_seen c.as_ref.result c.in-Some.child.now c.as_ref.ensures.value ∙ sym (lent_at c.deref.result.now c.self.inside.children.items c.args.index c.in-Some.child.now c.deref.ensures.value c.in-Some.ensures.lookup.3.0 c.in-Some.ensures.lookup.1))

pub returns-in-None : goal.returns-in-None
returns-in-None c = rw (← c.self.view_is) (sym (lent_past c.deref.result.now c.self.inside.children.items c.args.index c.deref.ensures.value c.in-None.ensures.lookup.3))
