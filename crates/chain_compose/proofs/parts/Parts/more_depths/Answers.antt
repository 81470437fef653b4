use Rattle.std.proofs.Common.{◌∙◌, arith}
use Rattle.std.proofs.lemmas.List.{length-map}
use Rattle.element_lang.specs.View.{tree}
use Rattle.chain_compose.specs.Parts.{chain_of}
use Rattle.chain_compose.proofs.DeepCaps.{next_depth, all_within}
use Rattle.chain_compose.proofs.parts.Parts.more_depths.Goals as goal

pub returns : goal.returns
returns c = λ n are. record {
  each = λ e lt.
      c.loop-element.invariant.each e (omega (arith, lt, length-map c.args.self.now.classes.now tree, c.loop-element-test.false))
      ∙ next_depth (chain_of c.args.self.now) n c.args.depths.now (all_within c.args.self.now c.requires.within) are e;
}
