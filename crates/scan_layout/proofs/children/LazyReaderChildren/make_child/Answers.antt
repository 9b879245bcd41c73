use Rattle.std.proofs.Common.{◌≡◌, sym, ◌∙◌, ap, arith, length, get_or}
use Rattle.scan_layout.specs.Lazy.{Children}
use Rattle.scan_layout.proofs.Lazy.{stays_made}
use Rattle.scan_layout.proofs.children.LazyReaderChildren.make_child.Goals as goal

pub returns-then-is_some-clause-made : goal.returns-then-is_some-clause-made
returns-then-is_some-clause-made g c =
    let made : c.self.inside.made.items ≡ c.args.self.now.made = ap (λ (cs : Children g.row.V.Denot g.row.K.Denot g.row.K-Made.Denot). cs.made) c.self.view_is in
    stays_made g.K.ChildOpener.makes c.args.self.now c.args.idx c.index.result.now (omega (arith, ap length made))
    (c.index.ensures ∙ ap (λ ms. get_or ms c.args.idx c.index.result.now) made) (sym c.is_some.ensures ∙ c.if-is_some.true)
