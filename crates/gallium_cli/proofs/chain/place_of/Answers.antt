use Rattle.std.proofs.lemmas.Option.{slice_get_read, slice_get_within}
use Rattle.std.proofs.Common.{refl, sym, ◌∙◌, arith, below_more}
use Rattle.std.proofs.lemmas.Bool.Decides.{Decides-eqb}
use Rattle.std.proofs.lemmas.Slice.Eq.{slice_eq-Decides}
use Rattle.gallium_cli.proofs.Firsts.{other_place}
use Rattle.gallium_cli.proofs.chain.place_of.Goals as goal

pub returns-then-eq : goal.returns-then-eq
returns-then-eq c =
    let x = c.index-elements-place in (
      x.result,
      slice_get_read c.args.elements.now _ c.loop-place.place x.result refl c.loop-place-test.true x.is,
      sym c.as_slice.ensures ∙ (slice_eq-Decides Decides-eqb _ _ _ c.eq.ensures).0 c.if-eq.true,
    )

pub loop-place-preserved : goal.loop-place-preserved
loop-place-preserved c =
    below_more _ _ c.loop-place.invariant (other_place c.args.elements.now c.args.class.now c.loop-place.place
    c.index-elements-place.result c.as_slice.result.now c.eq.result c.loop-place-test.true c.index-elements-place.is
    c.as_slice.ensures (slice_eq-Decides Decides-eqb _ _ _ c.eq.ensures) c.if-eq.false)

pub returns : goal.returns
returns c = λ e (x, there, same).
    let lt = slice_get_within c.args.elements.now e x there in
    c.loop-place.invariant e (omega arith) (x, there, same)
