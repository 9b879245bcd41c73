-- What a sink does with the chunks that it takes.
use Rattle.std.proofs.Common.{sym, ap, ◌∙◌, append-nil, append_assoc}
use Rattle.std.specs.Prelude.{◌≡◌, ◌++◌, List, []}

-- to take none leaves a sink as it is, and to take some and then others is to take all of them in this order
pub record IsTaking {S T : Type 0} (takes : S → List T → S → Type 0) : Type 0 where
  pub none : (s : S) → takes s [] s
  pub more : (a b c : S) (xs ys : List T) → takes a xs b → takes b ys c → takes a (xs ++ ys) c

module _ {S T : Type 0} (items : S → List T) where
  -- what is taken stands behind what was kept before
  abbrev pub Appends : S → List T → S → Type 0
  Appends old ts new = items new ≡ items old ++ ts

  pub appends_taking : IsTaking Appends
  appends_taking = record {
    none = λ s. sym (append-nil (items s));
    more = λ a b c xs ys p q. q ∙ ap (λ zs. zs ++ ys) p ∙ append_assoc (items a) xs ys;
  }
