-- A sink that keeps chunks, and counts their rows as they come.
use Rattle.std.proofs.Common.{refl, sym, ap, ◌∙◌, append-nil, append_assoc}
use Rattle.std.specs.Prelude.{◌≡◌, ◌++◌, ℕ, List}
use Rattle.vortex_scan.specs.Segments.Faults.{capped}
use Rattle.vortex_scan.specs.Drive.Taking.{IsTaking}
use Rattle.vortex_scan.specs.Multi.Output.{ChunkData}
use Rattle.uses.specs.Uses.{rows_in}

-- the chunks, how many rows they have together up to the greatest u64, and how many are wanted
module _ {S : Type 0} (chunks : S → List ChunkData) (rows most : S → ℕ) where
  -- these chunks stand behind those that were kept, a right count is right still, and as many rows are wanted
  pub record Shows (old : S) (ts : List ChunkData) (new : S) : Type 0 where
    pub kept : chunks new ≡ chunks old ++ ts
    pub count : rows old ≡ capped (rows_in (chunks old)) → rows new ≡ capped (rows_in (chunks new))
    pub wants : most new ≡ most old

  pub shows_taking : IsTaking Shows
  shows_taking = record {
    none = λ s. record { kept = sym (append-nil (chunks s)); count = λ is. is; wants = refl };
    more = λ a b c xs ys p q. record {
      kept = q.kept ∙ ap (λ zs. zs ++ ys) p.kept ∙ append_assoc (chunks a) xs ys;
      count = λ is. q.count (p.count is);
      wants = q.wants ∙ p.wants;
    };
  }
