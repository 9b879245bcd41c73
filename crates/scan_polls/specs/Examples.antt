-- Worked rows.
use Rattle.std.specs.Prelude.{◌≡◌, true, false, [], ◌∷◌, Some, None}
use Rattle.scan_values.specs.declared.selection.Selection.TheVariants.{All}
use Rattle.scan_layout.specs.Layout.{Layout}
use Rattle.scan_multi_sources.specs.Children.{deferred, opened}
use Rattle.scan_multi_sources.specs.Numbers.{is_given}
use Rattle.scan_multi_sources.specs.Starts.{first_places}
use Rattle.scan_polls.specs.Due.{IsPartOf, OpenedLead}

abbrev pub WorkedRows : Type 0 → Type 0
WorkedRows O = (o : O) (l : Layout) →
    record {
      opened_before : first_places (opened l None ∷ deferred o None ∷ deferred o None ∷ []) ≡ 0 ∷ 1 ∷ 2 ∷ [];
      opened_between : first_places (deferred o None ∷ opened l None ∷ deferred o None ∷ []) ≡ 1 ∷ 0 ∷ 2 ∷ [];
      leads : OpenedLead (opened l None ∷ deferred o None ∷ []);
      does_not_lead : OpenedLead (deferred o None ∷ opened l None ∷ []) → ⊥;
      one_left_out : IsPartOf (0 ∷ 2 ∷ []) (0 ∷ 1 ∷ 2 ∷ []);
      first_passed : is_given (record { range = Some (record { start = 1; end = 3 }); selection = All }) 0 ≡ false;
      second_given : is_given (record { range = Some (record { start = 1; end = 3 }); selection = All }) 1 ≡ true;
      fourth_passed : is_given (record { range = Some (record { start = 1; end = 3 }); selection = All }) 3 ≡ false;
    }
