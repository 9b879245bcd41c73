use Rattle.std.proofs.Common.{sym, subst, ◌∙◌, true≢false}
use Rattle.scan_manifest.specs.Parse.{IsParse}
use Rattle.scan_disk.proofs.JsonValues.{footer_of-none, footer_of-some}
use Rattle.scan_disk.proofs.footer.read_footer_bytes.Goals as goal

pub returns-in-Ok : goal.returns-in-Ok
returns-in-Ok c = subst (λ o. IsParse o c.read_footer_json.result) (sym (footer_of-some _ _ c.in-Ok.ensures.ok.0 c.in-Ok.ensures.ok.1)) c.read_footer_json.ensures

pub returns-else-is_memory : goal.returns-else-is_memory
returns-else-is_memory c = footer_of-none _ (c.in-Err.ensures.err (λ m. true≢false (sym (c.is_memory.ensures.1 m) ∙ c.if-is_memory.false)))
