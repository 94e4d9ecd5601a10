use Rattle.std.proofs.Common.{arith}
use Rattle.buffer.proofs.Laws.{edge-one, edge-put, edge_skip}
use Rattle.buffer.proofs.draw_edge.Goals as goal

pub returns-in-Some-clause-dst_after : goal.returns-in-Some-clause-dst_after
returns-in-Some-clause-dst_after c =
    let a = c.args in
    edge-put a.dst.now a.at c.in-Some.b a.edge c.in-Some.is (omega (arith, c.requires, edge-one c.in-Some.b a.edge c.in-Some.is))

pub returns-in-None-clause-dst_after : goal.returns-in-None-clause-dst_after
returns-in-None-clause-dst_after c = edge_skip c.args.dst.now c.args.at c.args.edge c.in-None.is
