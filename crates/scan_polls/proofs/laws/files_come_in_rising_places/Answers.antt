use Rattle.scan_polls.proofs.Placing.{come_in_places, made_lead}
use Rattle.scan_polls.proofs.laws.files_come_in_rising_places.Goals as goal

pub returns-clause-places : goal.returns-clause-places
returns-clause-places g c = λ opener rs source q r old new starts polls ordered. come_in_places opener rs source q r old new starts polls ordered

pub returns-clause-made : goal.returns-clause-made
returns-clause-made g c = λ os sizes. made_lead os sizes
