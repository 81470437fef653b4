use Rattle.std.proofs.Common.{arith, ap, length}
use Rattle.std.proofs.lemmas.Option.{slice_get_within}
use Rattle.lossy_link.specs.Link.{Link}
use Rattle.lossy_replay.specs.Linked.{standing}
use Rattle.lossy_replay.proofs.AtWork.{read_at}
use Rattle.lossy_replay.proofs.OnWays.{placed_by, search_finds, search_misses}
use Rattle.lossy_replay.proofs.PlacesOnWays.{few_standing}
use Rattle.lossy_replay.proofs.way.Way.place.Goals as goal

pub overflow_cast-result : goal.overflow_cast-result
overflow_cast-result c =
    let l = c.requires.way.0 in
    let gone = c.requires.way.1 in
    let w = c.requires.way.2 in
    let found = search_finds l gone c.args.self.now c.as_slice-2.result.now c.in_ok-number.number.now c.in-Ok.place w c.as_slice-2.ensures.value c.in-Ok.ensures.position in
    let within = slice_get_within (standing l gone) c.in-Ok.place c.in_ok-number.number.now found.there in
    omega (arith, within, few_standing gone (length l.items), w.at_work.few, ap (λ (m : Link). length m.items) w.link)

pub returns-in-Ok : goal.returns-in-Ok
returns-in-Ok c = λ l gone w.
    let me = c.args.self.now in
    let n = c.in_ok-number.number.now in
    let at = read_at me.arrived.items c.as_slice.result.now c.args.j n c.as_slice.ensures.value c.in_ok-number.ensures.lookup.0 c.in_ok-number.ensures.lookup.1 in
    placed_by l gone me c.as_slice-2.result.now c.args.j n c.in-Ok.place w c.as_slice-2.ensures.value at c.in-Ok.ensures.position

pub returns-in-Err : goal.returns-in-Err
returns-in-Err c = λ l gone w.
    let me = c.args.self.now in
    let n = c.in_ok-number.number.now in
    let at = read_at me.arrived.items c.as_slice.result.now c.args.j n c.as_slice.ensures.value c.in_ok-number.ensures.lookup.0 c.in_ok-number.ensures.lookup.1 in
    absurd (search_misses l gone me c.as_slice-2.result.now c.args.j n c.in-Err.field-0 w c.as_slice-2.ensures.value at c.in-Err.ensures.position)
