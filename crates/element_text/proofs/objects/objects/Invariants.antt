use Rattle.std.proofs.Common.{◌≡◌, true, take, drop, map}
use Rattle.std.specs.List.{list_all}
use Rattle.element_lang.specs.Surface.{object_of}
use Rattle.element_grammar.specs.Surface.{surface_object}
use Rattle.element_text.specs.Resolve.{is_good_decl, decls_of}
use Rattle.element_text.proofs.objects.objects.Given as goal

abbrev pub invariant-loop-next : goal.invariant-loop-next
invariant-loop-next l = (l.objects ≡ map object_of (decls_of (map (surface_object l.text) (take l.next-index l.source)))) × (list_all is_good_decl (decls_of (map (surface_object l.text) (drop l.next-index l.source))) ≡ true)
