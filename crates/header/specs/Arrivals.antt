-- "An arrival is alias, group, object." What a header says of it.
use Rattle.field.specs.declared.Arrival.{Arrival}
use Rattle.header.specs.declared.Datagram.{Datagram}
use Rattle.header.specs.declared.Datagram.TheVariants.{Object, Status as WithStatus}
use Rattle.header.specs.declared.SubgroupHeader.{SubgroupHeader}
use Rattle.header.specs.declared.SubgroupObject.{SubgroupObject}

-- alias and group stand in the header of the stream
abbrev pub subgroup_arrival : SubgroupHeader → SubgroupObject → Arrival
subgroup_arrival h o = record { alias = h.alias; place = record { group = h.group; object = o.object } }

abbrev pub datagram_arrival : Datagram → Arrival
datagram_arrival (Object d) = record { alias = d.alias; place = d.place }
datagram_arrival (WithStatus d n) = record { alias = d.alias; place = d.place }
