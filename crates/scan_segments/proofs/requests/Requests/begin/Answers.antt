use Rattle.scan_segments.proofs.requests.Requests.begin.Goals as goal

pub returns-clause-live : goal.returns-clause-live
returns-clause-live c = rw (← c.self.view_is) c.in_ok-add_id.ensures.live
