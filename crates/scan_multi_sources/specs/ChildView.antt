-- What a file of a source is to contracts.
use Rattle.scan_multi_sources.specs.Children.{ChildData, opened, deferred}
use Rattle.scan_multi_sources.specs.declared.child.MultiLayoutChild.{MultiLayoutChild}
use Rattle.scan_multi_sources.specs.declared.child.MultiLayoutChild.TheVariants.{Opened, Deferred}

-- a file, as contracts see it
abbrev pub child_data : {O : Type 0} → MultiLayoutChild O → ChildData O
child_data (Opened l n) = opened l.value n
child_data (Deferred o n) = deferred o n
