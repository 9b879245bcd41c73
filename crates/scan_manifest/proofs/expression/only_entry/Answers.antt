use Rattle.std.proofs.Common.{ap, ◌∙◌, Some, sym}
use Rattle.serde_json.specs.View.{view}
use Rattle.scan_manifest.proofs.Levels.{no_only_member, one_member}
use Rattle.scan_manifest.proofs.expression.only_entry.Goals as goal

pub returns-then-len-ne1 : goal.returns-then-len-ne1
returns-then-len-ne1 c = no_only_member c.args.map.now.entries (λ e. c.if-len-ne1.true (c.len.ensures.len ∙ e))

pub returns-in-Some : goal.returns-in-Some
returns-in-Some c =
    ap (λ k. Some (k, view c.in-Some.value.now)) c.as_str.ensures.value
    ∙ one_member c.args.map.now.entries c.in-Some.key.now c.in-Some.value.now (sym c.len.ensures.len ∙ c.if-len-ne1.false) c.in-Some.ensures.first
