use Rattle.std.proofs.Common.{◌<◌, length, sym, ap, ◌∙◌, inl}
use Rattle.scan_layout.specs.Lazy.{IsMadeOf, child_at, with_child}
use Rattle.scan_layout.proofs.Lazy.{child_written, written_again, no_fault, within_if, own_of}
use Rattle.scan_layout.proofs.children.LazyReaderChildren.get.Goals as goal

pub returns : goal.returns
returns g c =
    let made = c.in_ok-make_child.ensures.made in
    let within : c.args.idx < length c.args.self.now.made = within_if _ _ (λ h. no_fault _ _ (c.in_ok-make_child.ensures.index.1 h)) in
    let there = ap (λ cs. child_at cs c.args.idx) made.made ∙ child_written c.args.self.now c.args.idx made.child within in
    let child = sym there ∙ c.made_child.ensures.child in (
      λ i. inl (c.made_child.result.ghost_name, λ w. (ap (λ cs. with_child cs c.args.idx w) made.made ∙ written_again c.args.self.now c.args.idx made.child w) i),
      record {
        lends = tt;
        kept = λ h. made.kept h ∙ child;
        own = λ h. own_of (λ m. IsMadeOf g.K.ChildOpener.makes c.args.self.now c.args.idx m) child (made.own h);
        index = (λ e. absurd (no_fault _ _ e), λ h. absurd (no_fault _ _ (c.in_ok-make_child.ensures.index.1 h)));
      },
    )
