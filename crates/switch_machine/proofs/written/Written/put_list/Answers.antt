use Rattle.std.proofs.Common.{arith, refl}
use Rattle.std.proofs.lemmas.List.{take_all}
use Rattle.switch_machine.proofs.WrittenPlaces.{list_more}
use Rattle.switch_machine.proofs.written.Written.put_list.Goals as goal

pub loop-place-preserved : goal.loop-place-preserved
loop-place-preserved c =
    list_more c.args.places.now c.loop-place.place-index _ c.args.self.now c.loop-place.self c.put.new.self c.loop-place-test.true refl
    c.loop-place.invariant c.put.ensures

pub returns : goal.returns
returns c = λ given marks.
    rw (take_all c.loop-place.place-index c.args.places.now (omega (arith, c.loop-place-test.false))) at (c.loop-place.invariant given marks)
