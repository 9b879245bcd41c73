use Rattle.scan_segments.proofs.requests.Requests.end.Goals as goal

pub returns-clause-live : goal.returns-clause-live
returns-clause-live c = rw (← c.self.view_is) c.drop_id.ensures.live
