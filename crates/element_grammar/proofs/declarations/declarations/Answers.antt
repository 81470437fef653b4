use Rattle.std.proofs.Common.{arith}
use Rattle.element_grammar.specs.Surface.{surface_object}
use Rattle.element_grammar.proofs.DeclarationPieces.{objects_pushed}
use Rattle.element_grammar.proofs.declarations.declarations.Goals as goal

pub objects-preserved : goal.objects-preserved
objects-preserved c = (
  objects_pushed (surface_object c.args.text.now) c.objects.objects.items c.push.new.self.items
      (record { at = c.count-at.result; item = c.in_ok-item.item }) c.objects.invariant.0
      c.in_ok-item.ensures.ok
      c.count-at.ensures
      c.in_ok-push.ensures.items,
  omega (arith, c.objects.invariant.1, c.in_ok-item.ensures.shorter),
)
