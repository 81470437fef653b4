-- What the whole starts with.
use Rattle.std.proofs.Common.{◌≡◌, ℕ, suc, List, [], ◌∷◌, ◌++◌, map, refl, ap, ◌∙◌}
use Rattle.state_store.specs.declared.object.Kind.{Kind}
use Rattle.state_store.specs.declared.object.Kind.TheVariants.{Table}
use Rattle.state_store.specs.declared.object.ObjectDecl.{ObjectDecl}
use Rattle.state_store.specs.Store.{Contents, start_contents, start_object, start_store}
use Rattle.element_lang.specs.Tree.{Tree}
use Rattle.element_chain.specs.Chain.{Connected}
use Rattle.element_chain.specs.Compose.{prefixed, named_objects, objects_from, composed, joined}

-- a name plays no part
pub same_contents : (kind : Kind) (o : ObjectDecl) (name : List ℕ) → start_contents kind (record o { name = name }) ≡ start_contents kind o
same_contents Table o name = refl
same_contents _ o name = refl

named_start : (e : ℕ) (os rest : List ObjectDecl) → start_store (named_objects e os ++ rest) ≡ start_store os ++ start_store rest
named_start e [] rest = refl
named_start e (o ∷ os) rest =
    ap (λ (contents : Contents). record (start_object o) { contents = contents } ∷ start_store (named_objects e os ++ rest)) (same_contents o.kind o (prefixed e o.name))
    ∙ ap (λ st. start_object o ∷ st) (named_start e os rest)

starts_from : (e : ℕ) (ms : List Tree) → start_store (objects_from e ms) ≡ joined (map (λ (m : Tree). start_store m.objects) ms)
starts_from e [] = refl
starts_from e (m ∷ ms) = named_start e m.objects (objects_from (suc e) ms) ∙ ap (λ st. start_store m.objects ++ st) (starts_from (suc e) ms)

pub starts_joined : (c : Connected) → start_store (composed c).objects ≡ joined (map (λ (m : Tree). start_store m.objects) c.elements)
starts_joined c = starts_from 0 c.elements
