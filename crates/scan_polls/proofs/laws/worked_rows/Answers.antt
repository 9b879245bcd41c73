use Rattle.std.proofs.Common.{inl, inr, refl}
use Rattle.scan_polls.proofs.laws.worked_rows.Goals as goal

pub returns : goal.returns
returns g c = λ o l.
    record {
      opened_before = refl;
      opened_between = refl;
      leads = refl;
      does_not_lead = λ h. absurd cc;
      one_left_out = inl (refl, inr (inl (refl, tt)));
      first_passed = refl;
      second_given = refl;
      fourth_passed = refl;
    }
