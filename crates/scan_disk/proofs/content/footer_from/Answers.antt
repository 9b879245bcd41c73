use Rattle.std.proofs.Common.{sym, ◌∙◌}
use Rattle.scan_disk.proofs.Contents.{unsealed_not, unsealed_says}
use Rattle.scan_disk.proofs.content.footer_from.Goals as goal

pub returns-then-not-is_digest : goal.returns-then-not-is_digest
returns-then-not-is_digest c =
    unsealed_not c.args.bytes.now c.split_at.result.0.now c.split_at.result.1.now c.args.start c.split_at.ensures.front c.split_at.ensures.back (sym c.is_digest.ensures ∙ c.if-not-is_digest.true)

pub returns : goal.returns
returns c =
    unsealed_says c.args.bytes.now c.split_at.result.0.now c.split_at.result.1.now c.args.start c.split_at.ensures.front c.split_at.ensures.back c.footer_text.result
    (sym c.is_digest.ensures ∙ c.if-not-is_digest.false) c.footer_text.ensures
