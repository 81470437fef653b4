use Rattle.std.proofs.Common.{refl}
use Rattle.lossy_replay.proofs.AtWork.{read_at}
use Rattle.lossy_replay.proofs.OnWays.{search_misses, way_takes}
use Rattle.lossy_replay.proofs.way.Way.take.Goals as goal

pub returns-in-Ok : goal.returns-in-Ok
returns-in-Ok c = λ l gone w.
    let me = c.args.self.now in
    let n = c.in-Some.field-0.now in
    let at = read_at me.arrived.items c.as_slice.result.now c.args.j n c.as_slice.ensures.value c.in-Some.ensures.lookup.0 c.in-Some.ensures.lookup.1 in
    way_takes l gone me (record { line = me.line; standing = c.remove-in-Ok.new.self; arrived = c.remove.new.self }) c.as_slice-2.result.now c.args.j n
    c.in-Ok.place w c.as_slice-2.ensures.value at c.in-Ok.ensures.position refl c.remove.ensures.items c.remove-in-Ok.ensures.items

pub returns-in-Err : goal.returns-in-Err
returns-in-Err c = λ l gone w.
    let me = c.args.self.now in
    let n = c.in-Some.field-0.now in
    let at = read_at me.arrived.items c.as_slice.result.now c.args.j n c.as_slice.ensures.value c.in-Some.ensures.lookup.0 c.in-Some.ensures.lookup.1 in
    absurd (search_misses l gone me c.as_slice-2.result.now c.args.j n c.in-Err.field-0 w c.as_slice-2.ensures.value at c.in-Err.ensures.position)
