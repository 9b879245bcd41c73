-- What a contract sees of lent items and cuts.
use Rattle.scan_partition.specs.Items.{Use, no_use, one, many}
use Rattle.scan_partition.specs.Partition.{Cut}
use Rattle.scan_partition.specs.declared.item.Item.{Item}
use Rattle.scan_partition.specs.declared.item.Item.TheVariants.{Field, Validity}
use Rattle.scan_partition.specs.declared.cuts.ItemRef.{ItemRef}
use Rattle.scan_partition.specs.declared.cuts.ItemRef.TheVariants.{Field as LentField, Validity as LentValidity}
use Rattle.scan_partition.specs.declared.cuts.Sole.{Sole}
use Rattle.scan_partition.specs.declared.cuts.Sole.TheVariants.{Nothing, One, Many}
use Rattle.scan_partition.specs.declared.cuts.Cut.{Cut as LentCut}

abbrev pub item_seen : ItemRef → Item
item_seen (LentField n) = Field n.now
item_seen LentValidity = Validity

abbrev pub sole_of : Sole → Use
sole_of Nothing = no_use
sole_of (One i) = one (item_seen i)
sole_of Many = many

abbrev pub cut_seen : LentCut → Cut
cut_seen c = (item_seen c.item, c.expr.now.expr)
