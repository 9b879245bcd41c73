use Rattle.scan_groups.proofs.places.Places.place_more.Goals as goal

pub returns-clause-places : goal.returns-clause-places
returns-clause-places c = λ old h. c.place_next.ensures.places old (c.find_numbers-found.ensures.places old h)
