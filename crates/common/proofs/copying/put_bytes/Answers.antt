use Rattle.std.proofs.Common.{rules, ◌+◌, ◌*◌, ◌-◌}
use Rattle.common.proofs.Reaching.{reached_on, reached_all}
use Rattle.common.proofs.copying.put_bytes.Goals as goal

pub loop-k-preserved : goal.loop-k-preserved
loop-k-preserved c =
    let on = reached_on c.args.bytes.now c.args.out.now (8 * c.loop-k.k) (8 * c.loop-k.k + 8) c.loop-k.invariant (search rules) (search rules) (search rules) in
    search (rules, on)

pub returns : goal.returns
returns c =
    let on = reached_on c.args.bytes.now c.args.out.now (c.min-n.result - 8) c.min-n.result c.loop-k.invariant (search rules) (search rules) (search rules) in
    reached_all c.args.bytes.now c.args.out.now c.min-n.ensures (search (rules, on))
