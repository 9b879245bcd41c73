use Rattle.std.proofs.Common.{rules, ◌≡◌, ◌∙◌, ◌+◌, ◌++◌, ◌∷◌, [], length, refl, sym, ap}
use Rattle.vortex_scan.specs.Segments.Faults.{capped}
use Rattle.uses.specs.Uses.{rows_in}
use Rattle.uses.proofs.Showing.{one-more}
use Rattle.uses.proofs.shown.FirstRowsChunkSinkColumnChunk.take.Goals as goal

pub returns-then-self-clause-taken : goal.returns-then-self-clause-taken
returns-then-self-clause-taken c =
    let kept : c.push_reserved.new.self.items ≡ c.args.self.now.chunks.items ++ c.args.chunk ∷ [] = search rules in
    let sum : c.saturating_add-self.result ≡ capped (c.args.self.now.rows + length c.args.chunk.rows) = search rules in
    record { kept = kept; count = λ is. sum ∙ one-more c.args.self.now.rows c.args.self.now.chunks.items c.args.chunk is ∙ ap (λ cs. capped (rows_in cs)) (sym kept); wants = refl }

pub returns-clause-taken : goal.returns-clause-taken
returns-clause-taken c =
    let kept : c.push_reserved.new.self.items ≡ c.args.self.now.chunks.items ++ c.args.chunk ∷ [] = search rules in
    let sum : c.saturating_add-self.result ≡ capped (c.args.self.now.rows + length c.args.chunk.rows) = search rules in
    record { kept = kept; count = λ is. sum ∙ one-more c.args.self.now.rows c.args.self.now.chunks.items c.args.chunk is ∙ ap (λ cs. capped (rows_in cs)) (sym kept); wants = refl }
