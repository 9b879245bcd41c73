use Rattle.std.proofs.Common.{◌≡◌, ℕ, List, [], ◌∷◌, get_or, refl, ap, arith}
use Rattle.scan_collect.proofs.Picking.{turned}
use Rattle.scan_collect.proofs.laws.worked_rows.Goals as goal

pub returns : goal.returns
returns c =
    record {
      in_order = refl;
      not_later = λ e. let bad : 8 ≡ 5 = ap (λ (ks : List ℕ). get_or ks 1 0) e in absurd (omega (arith, bad));
      in_some_order = (8 ∷ 5 ∷ 3 ∷ [], turned, refl);
      all = refl;
      no_more = refl;
    }
