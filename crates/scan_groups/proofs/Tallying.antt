-- Tallies with further rows, by their kinds.
use Rattle.std.proofs.Common.{◌≡◌, ℕ, ◌-◌, ◌≤◌, List, ◌++◌, length, map, sym, ap, ◌∙◌, subst}
use Rattle.std.specs.Prelude.{replicate}
use Rattle.std.specs.declared.alloc.Global.{Global}
use Rattle.std.specs.declared.vec.Vec.{Vec}
use Rattle.std.proofs.lemmas.List.{map-append}
use Rattle.scan_values.specs.Val.{Val, null_val}
use Rattle.scan_values.specs.Values.{val_of}
use Rattle.scan_values.specs.declared.value.Value.{Value}
use Rattle.scan_values.specs.declared.value.Value.TheVariants.{Null}
use Rattle.scan_groups.specs.Totals.{Adds, IsCount, IsCountOf, IsGreatestOf, IsLeastOf, IsMore, IsSumOf, IsTotal, length_of, measured_by, no_sum}
use Rattle.scan_groups.specs.declared.sum.Sum.{Sum}
use Rattle.scan_groups.specs.declared.tally.Tally.{Tally}
use Rattle.scan_groups.specs.declared.tally.Tally.TheVariants as tally
use Rattle.scan_groups.proofs.Added.{adds_grown, longer, map-replicate}

pub shorter : {X : Type 0} (xs gs ys : List X) (len n : ℕ) (x : X) → gs ≡ xs ++ replicate (len - length xs) x → length ys ≡ length gs → length xs ≤ n → len ≤ n → length ys ≤ n
shorter xs gs ys len n x grown long h k = subst (λ m. m ≤ n) (sym (long ∙ ap length grown)) (longer xs len n x h k)

module _ (self : Tally) (places : List ℕ) (vs : List Val) (groups : ℕ) where
  pub count_more : (ns xs : List ℕ) → self ≡ tally.Count ns → ((n : ℕ) → length ns ≤ n → groups ≤ n → length xs ≤ n) → Adds IsCount 0 places vs ns xs → IsMore self places vs groups (tally.Count xs)
  count_more ns xs is short adds = record {
    of = ap measured_by (sym is);
    short = λ n h k. short n (subst (λ t. length_of t ≤ n) is h) k;
    totals = λ before p h. adds before p (subst (λ t. IsTotal t p before) is h);
  }

  pub values_more : (at : ℕ) (ns gs xs : Vec ℕ Global) → self ≡ tally.Values at ns → gs.items ≡ ns.items ++ replicate (groups - length ns.items) 0
      → length xs.items ≡ length gs.items → Adds IsCountOf 0 places vs gs.items xs.items → IsMore self places vs groups (tally.Values at xs)
  values_more at ns gs xs is grown long adds = record {
    of = ap measured_by (sym is);
    short = λ n h k. shorter ns.items gs.items xs.items groups n 0 grown long (subst (λ t. length_of t ≤ n) is h) k;
    totals = λ before p h. adds_grown IsCountOf 0 places vs ns.items xs.items (groups - length ns.items) (subst (λ ys. Adds IsCountOf 0 places vs ys xs.items) grown adds) before p (subst (λ t. IsTotal t p before) is h);
  }

  pub sums_more : (at : ℕ) (ss xs : List Sum) → self ≡ tally.Sum at ss → ((n : ℕ) → length ss ≤ n → groups ≤ n → length xs ≤ n) → Adds IsSumOf no_sum places vs ss xs → IsMore self places vs groups (tally.Sum at xs)
  sums_more at ss xs is short adds = record {
    of = ap measured_by (sym is);
    short = λ n h k. short n (subst (λ t. length_of t ≤ n) is h) k;
    totals = λ before p h. adds before p (subst (λ t. IsTotal t p before) is h);
  }

  vals_grown : (ns gs : Vec Value Global) → gs.items ≡ ns.items ++ replicate (groups - length ns.items) Null → map val_of gs.items ≡ map val_of ns.items ++ replicate (groups - length ns.items) null_val
  vals_grown ns gs grown = ap (map val_of) grown ∙ map-append val_of ns.items (replicate (groups - length ns.items) Null) ∙ ap (λ us. map val_of ns.items ++ us) (map-replicate val_of (groups - length ns.items) Null)

  pub least_more : (at : ℕ) (ns gs xs : Vec Value Global) → self ≡ tally.Least at ns → gs.items ≡ ns.items ++ replicate (groups - length ns.items) Null
      → length xs.items ≡ length gs.items → Adds IsLeastOf null_val places vs (map val_of gs.items) (map val_of xs.items) → IsMore self places vs groups (tally.Least at xs)
  least_more at ns gs xs is grown long adds = record {
    of = ap measured_by (sym is);
    short = λ n h k. shorter ns.items gs.items xs.items groups n Null grown long (subst (λ t. length_of t ≤ n) is h) k;
    totals = λ before p h. adds_grown IsLeastOf null_val places vs (map val_of ns.items) (map val_of xs.items) (groups - length ns.items)
        (subst (λ ys. Adds IsLeastOf null_val places vs ys (map val_of xs.items)) (vals_grown ns gs grown) adds) before p (subst (λ t. IsTotal t p before) is h);
  }

  pub greatest_more : (at : ℕ) (ns gs xs : Vec Value Global) → self ≡ tally.Greatest at ns → gs.items ≡ ns.items ++ replicate (groups - length ns.items) Null
      → length xs.items ≡ length gs.items → Adds IsGreatestOf null_val places vs (map val_of gs.items) (map val_of xs.items) → IsMore self places vs groups (tally.Greatest at xs)
  greatest_more at ns gs xs is grown long adds = record {
    of = ap measured_by (sym is);
    short = λ n h k. shorter ns.items gs.items xs.items groups n Null grown long (subst (λ t. length_of t ≤ n) is h) k;
    totals = λ before p h. adds_grown IsGreatestOf null_val places vs (map val_of ns.items) (map val_of xs.items) (groups - length ns.items)
        (subst (λ ys. Adds IsGreatestOf null_val places vs ys (map val_of xs.items)) (vals_grown ns gs grown) adds) before p (subst (λ t. IsTotal t p before) is h);
  }
