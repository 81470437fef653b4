-- What a statement sees, as the Rust values keep it.
use Rattle.std.specs.Prelude.{ℕ, Vec, false, List, map}
use Rattle.state_store.specs.declared.object.ObjectDecl.{ObjectDecl}
use Rattle.element_lang.specs.declared.tree.Local.{Local}
use Rattle.element_lang.specs.Surface.{object_of}
use Rattle.element_lang.specs.Broken as broken
use Rattle.element_grammar.specs.declared.surface.At.{At}
use Rattle.element_grammar.specs.declared.surface.SurfaceDecl.{SurfaceDecl}
use Rattle.element_grammar.specs.Surface.{surface_object}
use Rattle.element_rules.specs.declared.names.Sight.{Sight}

-- a local of this name, with so many bits
abbrev pub local_of : {A : Type 0} → Vec ℕ A × ℕ → Local
local_of e = record { name = e.0.items; width = e.1 }

-- the objects that are declared
abbrev pub objects_of : List ℕ → List (At SurfaceDecl) → List ObjectDecl
objects_of text ds = map (λ d. object_of d.decl) (map (surface_object text) ds)

-- what is seen at the beginning of a block
abbrev pub sight_of : List ℕ → List (At SurfaceDecl) → Sight → broken.Sight
sight_of text objects sight = record {
  objects = objects_of text objects;
  locals = map local_of sight.locals.entries;
  repeated = sight.repeated;
  ended = false;
}
