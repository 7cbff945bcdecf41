-- `put_number` meets its contract: there is room, so `integer::write` writes the shortest form. Assumes nothing.
use Rattle.integer.proofs.Writes.{number_put}
use Rattle.encode.proofs.putting.put_number.Goals as goal

pub returns : goal.returns
returns c =
    let h = c.requires in
    number_put h.0 h.1 c.write.ensures c.size.ensures
