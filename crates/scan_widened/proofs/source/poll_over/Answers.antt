use Rattle.scan_widened.proofs.source.poll_over.Goals as goal

pub returns-in-Some-Held-clause-tied : goal.returns-in-Some-Held-clause-tied
returns-in-Some-Held-clause-tied g c = λ all least tied. c.poll_held.ensures.tied all c.args.stages.now.entries least tied

pub returns-in-Some-Held-clause-told : goal.returns-in-Some-Held-clause-told
returns-in-Some-Held-clause-told g c = λ all least tied. c.poll_held.ensures.told all c.args.stages.now.entries least tied
