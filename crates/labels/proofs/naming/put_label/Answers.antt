-- `put_label` meets its contract: the label is the three words that were put. Assumes nothing.
use Rattle.columns.proofs.Poured.{poured-three}
use Rattle.labels.specs.Labels.{called, label_of}
use Rattle.labels.proofs.FieldWords.{label-spelled}
use Rattle.labels.proofs.naming.put_label.Goals as goal

pub returns : goal.returns
unfolding label_of
returns c =
    let e = rw c.called.ensures at c.arranged-label.ensures in
    rw (← label-spelled (called c.args.field) c.args.what, ← e) (poured-three _ _ _ _ c.put_str-first.ensures c.put_str-next.ensures c.put_str.ensures)
