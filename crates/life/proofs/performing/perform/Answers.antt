use Rattle.std.proofs.Common.{rules, ◌≡◌, length, min, arith}
use Rattle.life.specs.Promises.{rolls}
use Rattle.life.proofs.Going.{begun, turn_within, call_read, call_handed, one_call, stopped, all_made}
use Rattle.life.proofs.performing.perform.Goals as goal

pub loop-made-init : goal.loop-made-init
loop-made-init g c = begun (rolls c.new.ensures)

pub returns-then-records-recorded : goal.returns-then-records-recorded
returns-then-records-recorded g c =
    let on = turn_within c.args.calls.now (omega (arith, c.min-room.ensures)) c.loop-made-test.true in
    stopped c.loop-made.invariant c.records-given.ensures (search (rules, on, call_handed, call_read)) (omega (arith, c.if-records-recorded.true))

pub loop-made-preserved : goal.loop-made-preserved
loop-made-preserved g c =
    let on = turn_within c.args.calls.now (omega (arith, c.min-room.ensures)) c.loop-made-test.true in
    one_call c.loop-made.invariant on.0 (omega (arith, on.1, c.min-room.ensures, c.loop-made.auto.events))
    c.records-given.ensures (search (rules, on, call_handed, call_read)) (omega (arith, c.if-records-recorded.false))
    c.records_used-recorded.ensures c.make-next.ensures

pub returns : goal.returns
returns g c =
    let long = c.loop-made.auto.events in
    let same : c.min-room.result ≡ min (length c.args.calls.now) (length c.loop-made.events) = omega (arith, c.min-room.ensures) in
    all_made c.loop-made.invariant same c.loop-made-test.false c.loop-made.auto.made-end
