use Rattle.std.proofs.Common.{◌∙◌, ℕ, Bor, ap, sym}
use Rattle.std.specs.Prelude.{option_map}
use Rattle.scan_segments.proofs.Lookups.{get-from_entries-lookup}
use Rattle.scan_lookup.proofs.numbers.Numbers.number.Goals as goal

pub returns-in-Some : goal.returns-in-Some
returns-in-Some c =
    rw (← c.self.view_is) (sym (ap (option_map (λ (b : Bor ℕ). b.now)) c.in-Some.is) ∙ c.get.ensures.value ∙ sym (get-from_entries-lookup c.self.inside.by_key.entries c.args.key))

pub returns-in-None : goal.returns-in-None
returns-in-None c =
    rw (← c.self.view_is) (sym (ap (option_map (λ (b : Bor ℕ). b.now)) c.in-None.is) ∙ c.get.ensures.value ∙ sym (get-from_entries-lookup c.self.inside.by_key.entries c.args.key))
